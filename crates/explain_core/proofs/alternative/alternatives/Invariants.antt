use Rattle.std.proofs.Common.{◌≡◌, ◌++◌, length}
use Rattle.explain_core.specs.Alternatives.{alternatives}
use Rattle.explain_core.proofs.alternative.alternatives.Given as goal

abbrev pub invariant-loop-support : goal.invariant-loop-support
invariant-loop-support l = l.found.items ++ alternatives l.at l.lives l.rest ≡ alternatives l.at l.lives l.descent

abbrev pub decreases-loop-support : goal.decreases-loop-support
decreases-loop-support l = length l.rest
