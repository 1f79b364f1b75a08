use Rattle.std.proofs.Common.{◌≡◌, map, length}
use Rattle.utility_core.specs.Words.{words_of}
use Rattle.utility_core.specs.Commands.{found}
use Rattle.utility_core.proofs.reading.found.Given as goal

abbrev pub invariant-loop-forms : goal.invariant-loop-forms
invariant-loop-forms l =
    found (map (λ r. (map (λ w. w.now) r.0.now, r.1, r.2)) l.forms) (words_of l.line l.tokens)
    ≡ found (map (λ r. (map (λ w. w.now) r.0.now, r.1, r.2)) l.initial.forms) (words_of l.line l.tokens)

abbrev pub decreases-loop-forms : goal.decreases-loop-forms
decreases-loop-forms l = length l.forms
