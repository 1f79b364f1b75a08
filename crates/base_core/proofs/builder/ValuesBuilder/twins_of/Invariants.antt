use Rattle.std.proofs.Common.{◌≡◌, ◌≤◌, take, length}
use Rattle.base_core.proofs.builder.ValuesBuilder.twins_of.Given as goal

-- the copies so far, and room for all of them
abbrev pub invariant-loop-value : goal.invariant-loop-value
invariant-loop-value l = (l.items.items ≡ take l.value-index l.values) × (length l.values ≤ l.items.capacity)
