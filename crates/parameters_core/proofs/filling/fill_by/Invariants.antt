use Rattle.std.proofs.Common.{length}
use Rattle.std.specs.Option.{option_copied}
use Rattle.parameters_core.proofs.Fills.{SoFar}
use Rattle.parameters_core.proofs.filling.fill_by.Given as goal

abbrev pub invariant-loop-place : goal.invariant-loop-place
invariant-loop-place l = SoFar (option_copied l.values) l.text l.rest l.line.items

abbrev pub decreases-loop-place : goal.decreases-loop-place
decreases-loop-place l = length l.rest
