use Rattle.std.proofs.Common.{◌≡◌, take}
use Rattle.tables_core.specs.Contents.{projected_values}
use Rattle.tables_core.proofs.rows.cut.Given as goal

abbrev pub invariant-loop-at : goal.invariant-loop-at
invariant-loop-at l = l.named ≡ projected_values l.names.columns.now (take l.at l.names.items.now) l.values
