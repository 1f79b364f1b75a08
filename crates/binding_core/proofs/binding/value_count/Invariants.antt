use Rattle.std.proofs.Common.{◌≡◌, ◌+◌, length}
use Rattle.binding_core.proofs.binding.value_count.Given as goal

abbrev pub invariant-loop-count : goal.invariant-loop-count
invariant-loop-count l = length l.left + l.count ≡ length l.values
