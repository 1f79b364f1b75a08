use Rattle.std.proofs.Common.{◌≡◌, ◌++◌, map, filter}
use Rattle.tables_core.specs.Contents.{satisfies, assigned_row}
use Rattle.tables_core.proofs.update.new_rows_scanned.Given as goal

abbrev pub invariant-loop-number : goal.invariant-loop-number
invariant-loop-number l =
    l.new_rows.items ++ map (assigned_row l.sets.columns.now l.sets.items.now) (filter (satisfies l.fn.conditions.columns.now l.fn.conditions.items.now) l.number-iterator) ≡ map (assigned_row l.sets.columns.now l.sets.items.now) (filter (satisfies l.fn.conditions.columns.now l.fn.conditions.items.now) l.rows.contents)
