use Rattle.std.proofs.Common.{◌≡◌, ◌≤◌, ◌+◌, length, Result, Ok, Err, ap, arith}
use Rattle.std.specs.Result.{OnOk, OnErr}
use Rattle.base_core.specs.declared.memory.NoMemory.{NoMemory}
use Rattle.base_core.specs.declared.name.Name.{Name}
use Rattle.base_core.specs.declared.value.Row.{Row}
use Rattle.tables_core.specs.Contents.{Database, all_rows, with_change, with_row}
use Rattle.tables_core.proofs.ChangeLemmas.{all_rows-with_row}
use Rattle.refusals.proofs.changing.put.Goals as goal

-- one row more at most
one-more : (old new : Database) (name : Name) (row : Row) (made : Result (Unit {0}) NoMemory) → OnOk made (new.tables ≡ with_change name (with_row row) old.tables) → OnErr made (new ≡ old) → length (all_rows new.tables) ≤ length (all_rows old.tables) + 1
one-more old new name row (Ok u) ok err =
    let long = ap (λ l. length (all_rows l)) ok in
    let more = all_rows-with_row name row old.tables in
    omega arith
one-more old new name row (Err e) ok err =
    let long = ap (λ (d : Database). length (all_rows d.tables)) err in
    omega arith

pub returns : goal.returns
returns c = one-more c.args.tables.now c.insert-made.new.self c.args.name c.args.row c.insert-made.result c.insert-made.ensures.ok c.insert-made.ensures.no_memory
