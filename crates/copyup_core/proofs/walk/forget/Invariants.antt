use Rattle.std.proofs.Common.{◌≡◌}
use Rattle.std.specs.List.{AllWithin}
use Rattle.copyup_core.specs.Slot.{Keeps, SameOutside, IsFree}
use Rattle.copyup_core.proofs.walk.forget.Given as goal

abbrev pub invariant-loop-at : goal.invariant-loop-at
invariant-loop-at g l =
    Keeps l.to l.fn.slots.items l.slots.items × SameOutside l.from l.at l.fn.slots.items l.slots.items × AllWithin IsFree l.slots.items l.from l.at × (l.slots.spare ≡ l.fn.slots.spare)
