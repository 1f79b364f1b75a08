use Rattle.std.proofs.Common.{◌<◌, None, arith, length, ◌∙◌, sym}
use Rattle.copyup_core.specs.Slot.{Slot}
use Rattle.copyup_core.proofs.Rising.{value_at-place, value_at-missed, value_at-absent, dead}
use Rattle.copyup_core.proofs.slots.Slots.find.Goals as goal
use Rattle.copyup_core.proofs.slots.Slots.find.Goals.{else-place-len-via-then-place-len+then-number-n+else-is_live, else-place-len-via-then-place-len+else-number-n, else-place-len-via-else-place-len}

pub returns-then-is_live-clause-item : goal.returns-then-is_live-clause-item
returns-then-is_live-clause-item g c =
    let r = c.requires in
    let xs = c.args.self.now.items in
    let lt : c.place-place.result < length xs = omega (arith, c.len.ensures, c.if-place-len.true) in
    λ d. (c.is_live.ensures d ∙ c.if-is_live.true, value_at-place c.args.n r.0 r.1 xs c.place-place.result d d r.2 lt (c.number.ensures d ∙ c.if-number-n.true))

pub returns-else-place-len-clause-item : goal.returns-else-place-len-clause-item
returns-else-place-len-clause-item g c =
    let r = c.requires in
    let xs = c.args.self.now.items in
    let i = c.place-place.result in
    let p = c.place-place.ensures in
    let d : Slot g.row.V.Denot = record { number = 0; live = None; kept = None } in
    elim c.else-place-len.branch [
      | else-place-len-via-then-place-len+then-number-n+else-is_live w ↦ sym (value_at-place c.args.n r.0 r.1 xs i d d r.2 (omega (arith, c.len.ensures, w.if-place-len.true)) (w.number.ensures d ∙ w.if-number-n.true)) ∙ dead _ (w.is_live.ensures d ∙ w.if-is_live.false)
      | else-place-len-via-then-place-len+else-number-n w ↦ value_at-missed c.args.n r.0 r.1 xs i d r.2 p.before p.after (λ lt q. w.if-number-n.false (sym (w.number.ensures d) ∙ q))
      | else-place-len-via-else-place-len w ↦ value_at-absent c.args.n xs (λ k e lt q. let b = p.before k e (omega arith) (omega (arith, lt, c.len.ensures, w.if-place-len.false)) in omega arith)
    ]
