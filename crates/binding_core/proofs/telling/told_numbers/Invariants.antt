use Rattle.binding_core.proofs.Told.{NumberedSoFar}
use Rattle.binding_core.proofs.telling.told_numbers.Given as goal

abbrev pub invariant-loop-ty : goal.invariant-loop-ty
invariant-loop-ty l = NumberedSoFar l.told l.left l.types l.ty-index l.numbers.items
