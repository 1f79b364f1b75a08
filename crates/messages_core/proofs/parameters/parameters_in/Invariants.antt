use Rattle.std.proofs.Common.{◌≡◌, ◌+◌, ◌≤◌, length, Some}
use Rattle.messages_core.specs.Reading.{past_items, parameter_at}
use Rattle.messages_core.proofs.parameters.parameters_in.Given as goal

abbrev pub invariant-loop-rest : goal.invariant-loop-rest
invariant-loop-rest l = (past_items parameter_at l.left l.bytes ≡ Some l.rest)
    × (l.left + length l.rest ≤ length l.bytes)

abbrev pub decreases-loop-rest : goal.decreases-loop-rest
decreases-loop-rest l = length l.rest
