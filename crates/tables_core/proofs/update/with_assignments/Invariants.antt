use Rattle.std.proofs.Common.{◌≡◌, take}
use Rattle.tables_core.specs.Contents.{assigned_values}
use Rattle.tables_core.proofs.update.with_assignments.Given as goal

abbrev pub invariant-loop-at : goal.invariant-loop-at
invariant-loop-at l = l.made ≡ assigned_values l.sets.columns.now (take l.at l.sets.items.now) l.values
