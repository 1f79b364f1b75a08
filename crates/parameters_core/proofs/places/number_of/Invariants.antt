use Rattle.parameters_core.proofs.Numerals.{IsSum}
use Rattle.parameters_core.proofs.places.number_of.Given as goal

abbrev pub invariant-loop-i : goal.invariant-loop-i
invariant-loop-i l = IsSum l.digits l.i l.number
