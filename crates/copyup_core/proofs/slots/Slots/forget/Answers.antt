use Rattle.std.proofs.Common.{◌≡◌, ◌∙◌, ap, arith, length, length-set}
use Rattle.std.proofs.lemmas.List.{take_at}
use Rattle.copyup_core.specs.Parallel.{forgotten}
use Rattle.copyup_core.proofs.Parallel.{in-lists, forgotten-at}
use Rattle.copyup_core.proofs.slots.Slots.forget.Goals as goal

pub index-requires : goal.index-requires
index-requires g c =
    let s = c.self.inside in
    let h = c.self.invariant.states_long in
    let lt = rw (← c.self.view_is) at c.requires in
    let inside = in-lists s.entries.items s.states.items s.kept.items c.args.place h lt in
    omega (arith, inside.1, s.states.ok)

pub index_mut-requires : goal.index_mut-requires
index_mut-requires g c =
    let s = c.self.inside in
    let h = c.self.invariant.states_long in
    let lt = rw (← c.self.view_is) at c.requires in
    let inside = in-lists s.entries.items s.states.items s.kept.items c.args.place h lt in
    omega (arith, inside.1, s.states.ok)

pub returns-clause-slot : goal.returns-clause-slot
returns-clause-slot g c =
    let s = c.self.inside in
    let h = c.self.invariant.states_long in
    let lt = rw (← c.self.view_is) at c.requires in
    let inside = in-lists s.entries.items s.states.items s.kept.items c.args.place h lt in
    let kept = rw c.as_mut_slice.ensures.value at c.clear_at.ensures in
    let long : length c.clear_at.new.kept ≡ s.kept.len = ap length kept ∙ length-set s.kept.items c.args.place _ ∙ omega (arith, s.kept.ok) in
    let state = c.forgotten.ensures ∙ ap forgotten c.index.ensures in
    rw (← c.self.view_is, take_at c.clear_at.new.kept _ s.kept.len long, kept, state) (forgotten-at s.entries.items s.states.items s.kept.items c.args.place c.index.result.now h inside.0)
