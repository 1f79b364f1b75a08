use Rattle.std.proofs.Common.{length}
use Rattle.parameters_core.proofs.AlongText.{OriginSoFar}
use Rattle.parameters_core.proofs.positions.position.Given as goal

abbrev pub invariant-loop-place : goal.invariant-loop-place
invariant-loop-place l = OriginSoFar l.text l.rest l.offset l.left

abbrev pub decreases-loop-place : goal.decreases-loop-place
decreases-loop-place l = length l.rest
