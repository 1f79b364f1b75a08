use Rattle.lexer_core.proofs.Sums.{Summed}
use Rattle.lexer_core.proofs.number.sum_of.Given as goal

abbrev pub invariant-loop-i : goal.invariant-loop-i
invariant-loop-i l = Summed l.digits l.i l.sum
