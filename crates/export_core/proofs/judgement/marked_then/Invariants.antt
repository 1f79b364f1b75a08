use Rattle.std.proofs.Common.{◌≡◌, take, map}
use Rattle.export_core.specs.Export.{held_then}
use Rattle.export_core.proofs.judgement.marked_then.Given as goal

abbrev pub invariant-loop-column : goal.invariant-loop-column
invariant-loop-column l = l.marks.items ≡ map (λ c. held_then l.image l.user l.table.name c.name) (take l.column-index l.columns)
