use Rattle.std.proofs.Common.{◌≡◌, ◌++◌, filter}
use Rattle.tables_core.specs.Contents.{satisfies}
use Rattle.tables_core.proofs.chosen.chosen_scanned.Given as goal

abbrev pub invariant-loop-number : goal.invariant-loop-number
invariant-loop-number l =
    l.chosen.items ++ filter (satisfies l.fn.conditions.columns.now l.fn.conditions.items.now) l.number-iterator ≡ filter (satisfies l.fn.conditions.columns.now l.fn.conditions.items.now) l.rows.contents
