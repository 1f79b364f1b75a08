use Rattle.std.proofs.Common.{ℕ, Some, sym, ap, ◌∙◌, arith}
use Rattle.copyup_core.specs.Slot.{had}
use Rattle.copyup_core.proofs.Parallel.{in-lists, get-slots_of, element, had-kept, had-dead, had-value}
use Rattle.copyup_core.proofs.slots.Slots.had.Goals as goal

pub returns-in-Some : goal.returns-in-Some
returns-in-Some g c =
    let s = c.self.inside in
    let h = c.self.invariant.states_long in
    let lt = rw (← c.self.view_is) at c.requires in
    let inside = in-lists s.entries.items s.states.items s.kept.items c.args.place h lt in
    let k = rw (c.in-Some.is, c.as_slice.ensures.value) at c.kept_value.ensures in
    let a = element s.entries.items c.args.place inside.0 in
    let b = element s.states.items c.args.place inside.1 in
    rw (← c.self.view_is) (λ d. ap had (get-slots_of s.entries.items s.states.items s.kept.items c.args.place d a b h inside.0) ∙ had-kept _ _ _ _ (sym k))

pub index-requires : goal.index-requires
index-requires g c =
    let s = c.self.inside in
    let h = c.self.invariant.states_long in
    let lt = rw (← c.self.view_is) at c.requires in
    let inside = in-lists s.entries.items s.states.items s.kept.items c.args.place h lt in
    omega (arith, inside.1, s.states.ok)

pub index-requires-in-Live : goal.index-requires-in-Live
index-requires-in-Live g c =
    let s = c.self.inside in
    let h = c.self.invariant.states_long in
    let lt = rw (← c.self.view_is) at c.requires in
    let inside = in-lists s.entries.items s.states.items s.kept.items c.args.place h lt in
    omega (arith, inside.0, s.entries.ok)

pub returns-in-Dead : goal.returns-in-Dead
returns-in-Dead g c =
    let s = c.self.inside in
    let h = c.self.invariant.states_long in
    let lt = rw (← c.self.view_is) at c.requires in
    let inside = in-lists s.entries.items s.states.items s.kept.items c.args.place h lt in
    let k = rw (c.in_default.is, c.as_slice.ensures.value) at c.kept_value.ensures in
    let a = element s.entries.items c.args.place inside.0 in
    rw (← c.self.view_is) (λ d. ap had (get-slots_of s.entries.items s.states.items s.kept.items c.args.place d a c.index.result.now h inside.0) ∙ had-dead _ _ _ (sym k) (sym c.index.ensures ∙ c.in-Dead.is))

pub returns-in-Live : goal.returns-in-Live
returns-in-Live g c =
    let s = c.self.inside in
    let h = c.self.invariant.states_long in
    let lt = rw (← c.self.view_is) at c.requires in
    let inside = in-lists s.entries.items s.states.items s.kept.items c.args.place h lt in
    let k = rw (c.in_default.is, c.as_slice.ensures.value) at c.kept_value.ensures in
    let state = rw c.index.ensures at c.in-Live.is in
    rw (← c.self.view_is) (λ d. ap had (get-slots_of s.entries.items s.states.items s.kept.items c.args.place d c.index-in-Live.result.now c.index.result.now h inside.0) ∙ had-value _ _ _ (sym k) state ∙ ap (λ (e : ℕ × g.row.V.Denot). Some e.1) (sym c.index-in-Live.ensures))
