use Rattle.std.proofs.Common.{ap, sym, ◌∙◌, refl, arith, rules}
use Rattle.copyup_core.specs.Holding.{Holding}
use Rattle.copyup_core.proofs.Soundness.{sound-push, length-contents, length-rising}
use Rattle.copyup_core.proofs.store.Store.push.Goals as goal

pub overflow_add-self-2 : goal.overflow_add-self-2
overflow_add-self-2 g c =
    let s = c.self-2.inside in
    let next = ap (λ (h : Holding g.row.V.Denot). h.next) (c.self-2.view_is ∙ c.make_room.ensures.same) ∙ sym (ap (λ (h : Holding g.row.V.Denot). h.next) c.self.view_is) in
    omega (arith, length-contents s.slots.items, c.self-2.invariant.counted, length-rising 0 s.next s.slots.items c.self-2.invariant.rises, next, c.if-self.false)

pub invariant_of-self : goal.invariant_of-self
invariant_of-self g c =
    let s = c.self-2.inside in
    rw c.push.ensures.items (sound-push s.slots.items s.next s.len s.capture _ c.args.item c.self-2.invariant refl refl refl)

pub returns-clause-number : goal.returns-clause-number
returns-clause-number g c = search rules
