use Rattle.std.proofs.Common.{length, ◌-◌}
use Rattle.std.specs.String.{string_bytes}
use Rattle.lexer_core.proofs.Halfway.{IsHalfway}
use Rattle.lexer_core.proofs.text.with_quotes_once.Given as goal

abbrev pub invariant-loop-at : goal.invariant-loop-at
invariant-loop-at l = IsHalfway l.quoted l.at (string_bytes l.text)

abbrev pub decreases-loop-at : goal.decreases-loop-at
decreases-loop-at l = length l.quoted - l.at
