use Rattle.std.proofs.Common.{◌≡◌, map, length}
use Rattle.std.specs.List.{list_all}
use Rattle.utility_core.specs.Words.{words_of, is_among}
use Rattle.utility_core.proofs.words.are_among.Given as goal

abbrev pub invariant-loop-tokens : goal.invariant-loop-tokens
invariant-loop-tokens l =
    list_all (is_among (map (λ w. w.now) l.words)) (words_of l.line l.tokens)
    ≡ list_all (is_among (map (λ w. w.now) l.words)) (words_of l.line l.initial.tokens)

abbrev pub decreases-loop-tokens : goal.decreases-loop-tokens
decreases-loop-tokens l = length l.tokens
