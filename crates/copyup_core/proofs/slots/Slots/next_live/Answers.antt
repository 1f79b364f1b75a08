use Rattle.std.proofs.Common.{◌∙◌, arith, length}
use Rattle.copyup_core.specs.declared.state.State.TheVariants.{Live}
use Rattle.copyup_core.specs.Parallel.{slots_of}
use Rattle.copyup_core.proofs.Parallel.{length-slots_of, on-some, on-none, live-at, dead-states, no-more}
use Rattle.copyup_core.proofs.slots.Slots.next_live.Goals as goal

pub next_live-requires : goal.next_live-requires
next_live-requires g c =
    let s = c.self.inside in
    let h = c.self.invariant.states_long in
    let le = rw (← c.self.view_is) at c.requires in
    rw c.as_slice.ensures.value (omega (arith, le, length-slots_of s.entries.items s.states.items s.kept.items h, h))

pub returns-clause-within : goal.returns-clause-within
returns-clause-within g c =
    let s = c.self.inside in
    let h = c.self.invariant.states_long in
    let w = rw c.as_slice.ensures.value at c.next_live.ensures.within in
    let n = length-slots_of s.entries.items s.states.items s.kept.items h in
    rw (← c.self.view_is) (on-some (λ i p q. (p.0, omega (arith, p.1, n, h))) c.next_live.result w w)

pub returns-clause-live : goal.returns-clause-live
returns-clause-live g c =
    let s = c.self.inside in
    let h = c.self.invariant.states_long in
    let w = rw c.as_slice.ensures.value at c.next_live.ensures.within in
    let l = rw c.as_slice.ensures.value at c.next_live.ensures.live in
    rw (← c.self.view_is) (on-some (λ i p q d. live-at s.entries.items s.states.items s.kept.items i d Live h (omega (arith, p.1, h)) ∙ q Live) c.next_live.result w l)

pub returns-clause-dead : goal.returns-clause-dead
returns-clause-dead g c =
    let s = c.self.inside in
    let h = c.self.invariant.states_long in
    let w = rw c.as_slice.ensures.value at c.next_live.ensures.within in
    let l = rw c.as_slice.ensures.value at c.next_live.ensures.dead in
    rw (← c.self.view_is) (on-some (λ i p q. dead-states s.entries.items s.states.items s.kept.items c.args.from i h p.0 (omega (arith, p.1, h)) q) c.next_live.result w l)

pub returns-clause-none : goal.returns-clause-none
returns-clause-none g c =
    let s = c.self.inside in
    let h = c.self.invariant.states_long in
    let xs = slots_of s.entries.items s.states.items s.kept.items in
    let n = length-slots_of s.entries.items s.states.items s.kept.items h in
    let le = rw (← c.self.view_is) at c.requires in
    let l = rw c.as_slice.ensures.value at c.next_live.ensures.none in
    rw (← c.self.view_is) (on-none (λ q. dead-states s.entries.items s.states.items s.kept.items c.args.from (length xs) h le (omega (arith, n)) (λ k d lo hi. q k d lo (omega (arith, hi, n, h))) ∙ no-more xs (length xs) (omega arith)) c.next_live.result l)
