use Rattle.std.proofs.Common.{◌<◌, [], sym, ap, ◌∙◌, arith, length}
use Rattle.copyup_core.specs.Parallel.{slots_of}
use Rattle.copyup_core.proofs.Parallel.{length-slots_of, dead-states, first-live, no-more}
use Rattle.copyup_core.proofs.items.ItemsIterator.next.Goals as goal

pub returns-in_err-place-clause-steps : goal.returns-in_err-place-clause-steps
returns-in_err-place-clause-steps g c =
    let s = c.self.inside in
    let es = s.entries.now in
    let ss = s.states.now in
    let h = c.self.invariant.0 in
    let none = c.in_err-place.ensures.none in
    let n = length-slots_of es ss [] h in
    let e = sym c.self.view_is ∙ dead-states es ss [] s.place (length es) h c.self.invariant.1 (omega arith) (λ k d lo hi. none k d lo (omega (arith, hi, h))) ∙ no-more (slots_of es ss []) (length es) (omega (arith, n)) in
    rw c.from_residual.ensures (e, e)

pub returns-clause-steps : goal.returns-clause-steps
returns-clause-steps g c =
    let s = c.self.inside in
    let es = s.entries.now in
    let ss = s.states.now in
    let h = c.self.invariant.0 in
    let i = c.in_ok-place.place in
    let within = c.in_ok-place.ensures.within in
    let lt : i < length es = omega (arith, within.1, h) in
    sym c.self.view_is ∙ dead-states es ss [] s.place i h within.0 (omega (arith, within.1, h)) c.in_ok-place.ensures.dead ∙ first-live es ss [] i c.index-self-place.result h lt (c.in_ok-place.ensures.live _)

pub returns-clause-goes : goal.returns-clause-goes
returns-clause-goes g c =
    let e = ap length (returns-clause-steps g c) in
    record {
      on = λ _. (tt, tt, omega (arith, e));
      keeps = tt;
      rests = λ _. tt;
    }
