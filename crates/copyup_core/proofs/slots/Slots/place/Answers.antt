use Rattle.std.proofs.Common.{◌<◌, ◌≤◌, arith}
use Rattle.copyup_core.proofs.Parallel.{length-slots_of, numbers-within, numbers-rise}
use Rattle.copyup_core.proofs.slots.Slots.place.Goals as goal

pub place-requires : goal.place-requires
place-requires g c =
    let s = c.self.inside in
    let h = c.self.invariant.states_long in
    let r = rw (← c.self.view_is) at c.requires in
    rw c.as_slice.ensures.value (numbers-rise r.0 r.1 s.entries.items s.states.items s.kept.items h r.2)

pub returns-clause-within : goal.returns-clause-within
returns-clause-within g c =
    let s = c.self.inside in
    let h = c.self.invariant.states_long in
    let w = rw c.as_slice.ensures.value at c.place.ensures.within in
    rw (← c.self.view_is) (omega (arith, w, length-slots_of s.entries.items s.states.items s.kept.items h))

pub returns-clause-before : goal.returns-clause-before
returns-clause-before g c =
    let s = c.self.inside in
    let h = c.self.invariant.states_long in
    let w = rw c.as_slice.ensures.value at c.place.ensures.within in
    let b = rw c.as_slice.ensures.value at c.place.ensures.before in
    rw (← c.self.view_is) (numbers-within (λ n. n < c.args.n) s.entries.items s.states.items s.kept.items 0 c.place.result h w b)

pub returns-clause-after : goal.returns-clause-after
returns-clause-after g c =
    let s = c.self.inside in
    let h = c.self.invariant.states_long in
    let n = length-slots_of s.entries.items s.states.items s.kept.items h in
    let a = rw c.as_slice.ensures.value at c.place.ensures.after in
    rw (← c.self.view_is) (λ k d lo hi. numbers-within (λ n. c.args.n ≤ n) s.entries.items s.states.items s.kept.items c.place.result _ h (omega arith) a k d lo (omega (arith, hi, n)))
