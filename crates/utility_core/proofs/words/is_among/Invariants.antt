use Rattle.std.proofs.Common.{◌≡◌, map, length}
use Rattle.utility_core.specs.Words.{token_text, is_among}
use Rattle.utility_core.proofs.words.is_among.Given as goal

abbrev pub invariant-loop-words : goal.invariant-loop-words
invariant-loop-words l =
    is_among (map (λ w. w.now) l.words) (token_text l.line l.token)
    ≡ is_among (map (λ w. w.now) l.initial.words) (token_text l.line l.token)

abbrev pub decreases-loop-words : goal.decreases-loop-words
decreases-loop-words l = length l.words
