use Rattle.std.proofs.Common.{◌≡◌, ◌++◌, map, filter}
use Rattle.tables_core.specs.Contents.{satisfies, projected_values}
use Rattle.tables_core.proofs.rows.rows_scanned.Given as goal

abbrev pub invariant-loop-row : goal.invariant-loop-row
invariant-loop-row l =
    l.chosen.items ++ map (λ r. record { values = projected_values l.names.columns.now l.names.items.now r.1.values }) (filter (satisfies l.conditions.columns.now l.conditions.items.now) l.row-iterator) ≡ map (λ r. record { values = projected_values l.names.columns.now l.names.items.now r.1.values }) (filter (satisfies l.conditions.columns.now l.conditions.items.now) l.rows.contents)
