use Rattle.binding_core.proofs.Told.{SoFar}
use Rattle.binding_core.proofs.telling.wanted_types.Given as goal

abbrev pub invariant-loop-guess : goal.invariant-loop-guess
invariant-loop-guess l = SoFar l.told l.left l.guessed l.guess-index l.types.items
