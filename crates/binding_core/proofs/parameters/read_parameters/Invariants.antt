use Rattle.binding_core.proofs.Steps.{SoFar}
use Rattle.binding_core.proofs.parameters.read_parameters.Given as goal

abbrev pub invariant-loop-place : goal.invariant-loop-place
invariant-loop-place l = SoFar l.types l.codes l.sent l.left l.place l.values.items
