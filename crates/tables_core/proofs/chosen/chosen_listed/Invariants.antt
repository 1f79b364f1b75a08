use Rattle.std.proofs.Common.{◌≡◌, ◌++◌}
use Rattle.tables_core.specs.Picking.{rows_at}
use Rattle.tables_core.proofs.chosen.chosen_listed.Given as goal

abbrev pub invariant-loop-number : goal.invariant-loop-number
invariant-loop-number l =
    l.chosen.items ++ rows_at l.number-iterator.rest.items l.rows.contents ≡ rows_at l.fn.numbers.items l.rows.contents
