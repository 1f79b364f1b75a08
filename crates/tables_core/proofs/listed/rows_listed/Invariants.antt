use Rattle.std.proofs.Common.{◌≡◌, ◌++◌, map}
use Rattle.tables_core.specs.Contents.{projected_values}
use Rattle.tables_core.specs.Picking.{rows_at}
use Rattle.tables_core.proofs.listed.rows_listed.Given as goal

abbrev pub invariant-loop-number : goal.invariant-loop-number
invariant-loop-number l =
    l.chosen.items ++ map (λ r. record { values = projected_values l.names.columns.now l.names.items.now r.1.values }) (rows_at l.number-iterator.rest.items l.rows.contents) ≡ map (λ r. record { values = projected_values l.names.columns.now l.names.items.now r.1.values }) (rows_at l.fn.numbers.items l.rows.contents)
