use Rattle.std.proofs.Common.{length}
use Rattle.parameters_core.proofs.AlongText.{GreatestSoFar}
use Rattle.parameters_core.proofs.places.greatest_place.Given as goal

abbrev pub invariant-loop-place : goal.invariant-loop-place
invariant-loop-place l = GreatestSoFar l.text l.rest l.greatest

abbrev pub decreases-loop-place : goal.decreases-loop-place
decreases-loop-place l = length l.rest
