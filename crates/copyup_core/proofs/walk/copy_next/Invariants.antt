use Rattle.std.proofs.Common.{◌≡◌, ◌≤◌, ◌++◌, length, vec_capacity}
use Rattle.std.specs.Map.{values_of}
use Rattle.copyup_core.specs.Slot.{had_within}
use Rattle.copyup_core.proofs.walk.copy_next.Given as goal

abbrev pub invariant-loop-at : goal.invariant-loop-at
invariant-loop-at g l =
    (l.out.items ≡ l.fn.out.items ++ values_of (had_within l.from l.at l.slots.items)) × (vec_capacity l.out ≡ vec_capacity l.fn.out) × (length (had_within l.from l.at l.slots.items) ≤ l.count)
