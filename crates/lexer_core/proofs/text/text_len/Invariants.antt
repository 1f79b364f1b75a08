use Rattle.std.proofs.Common.{length, ◌-◌}
use Rattle.lexer_core.proofs.Texts.{InText}
use Rattle.lexer_core.proofs.text.text_len.Given as goal

abbrev pub invariant-loop-at : goal.invariant-loop-at
invariant-loop-at l = InText l.bytes l.at l.size

abbrev pub decreases-loop-at : goal.decreases-loop-at
decreases-loop-at l = length l.bytes - l.at
