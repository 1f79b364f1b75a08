use Rattle.std.proofs.Common.{length, ◌-◌}
use Rattle.lexer_core.proofs.Reached.{Reached}
use Rattle.lexer_core.proofs.lexer.read_tokens.Given as goal

abbrev pub invariant-loop-at : goal.invariant-loop-at
invariant-loop-at l = Reached l.line l.at l.tokens.items

abbrev pub decreases-loop-at : goal.decreases-loop-at
decreases-loop-at l = length l.line - l.at
