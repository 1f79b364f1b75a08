use Rattle.std.proofs.Common.{◌≡◌, ◌++◌, map}
use Rattle.tables_core.specs.Contents.{assigned_row}
use Rattle.tables_core.specs.Picking.{rows_at}
use Rattle.tables_core.proofs.listed.new_rows_listed.Given as goal

abbrev pub invariant-loop-number : goal.invariant-loop-number
invariant-loop-number l =
    l.new_rows.items ++ map (assigned_row l.sets.columns.now l.sets.items.now) (rows_at l.number-iterator.rest.items l.rows.contents) ≡ map (assigned_row l.sets.columns.now l.sets.items.now) (rows_at l.fn.numbers.items l.rows.contents)
