use Rattle.base_core.proofs.Capitals.{AgreesTo}
use Rattle.base_core.proofs.keyword.spells.Given as goal

abbrev pub invariant-loop-i : goal.invariant-loop-i
invariant-loop-i l = AgreesTo l.capitals l.word l.i
