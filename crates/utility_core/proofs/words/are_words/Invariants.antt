use Rattle.std.proofs.Common.{◌≡◌, map, length}
use Rattle.utility_core.specs.Words.{words_of, same_words}
use Rattle.utility_core.proofs.words.are_words.Given as goal

abbrev pub invariant-loop-words : goal.invariant-loop-words
invariant-loop-words l =
    same_words (map (λ w. w.now) l.words) (words_of l.line l.tokens)
    ≡ same_words (map (λ w. w.now) l.initial.words) (words_of l.line l.initial.tokens)

abbrev pub decreases-loop-words : goal.decreases-loop-words
decreases-loop-words l = length l.words
