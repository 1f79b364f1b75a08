use Rattle.std.proofs.Common.{◌<◌, ◌∙◌, length, arith}
use Rattle.copyup_core.specs.Slot.{IsFree}
use Rattle.copyup_core.proofs.Rising.{Keeps-set, SameOutside-set, AllWithin-more_set}
use Rattle.copyup_core.proofs.walk.forget.Goals as goal

pub loop-at-preserved : goal.loop-at-preserved
loop-at-preserved g c =
    let ys = c.loop-at.slots.items in
    let at = c.loop-at.at in
    let kept = c.loop-at.invariant in
    let lt : at < length ys = omega (arith, kept.1.long) in
    let w = c.forget.ensures.slot in
    rw w.items (Keeps-set _ _ ys at w.slot w.slot kept.0 lt w.changed.number w.changed.live (λ le. absurd (omega arith)), SameOutside-set _ _ _ ys w.slot kept.1 (omega arith), AllWithin-more_set IsFree ys _ at w.slot kept.2 lt w.changed.free, c.forget.ensures.spare ∙ kept.3)
