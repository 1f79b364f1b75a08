use Rattle.std.proofs.Common.{arith}
use Rattle.copyup_core.proofs.Parallel.{in-lists, removed-at}
use Rattle.copyup_core.proofs.slots.Slots.remove.Goals as goal

pub index_mut-requires : goal.index_mut-requires
index_mut-requires g c =
    let s = c.self.inside in
    let h = c.self.invariant.states_long in
    let lt = rw (← c.self.view_is) at c.requires.within in
    let inside = in-lists s.entries.items s.states.items s.kept.items c.args.place h lt in
    omega (arith, inside.1, s.states.ok)

pub returns-clause-slot : goal.returns-clause-slot
returns-clause-slot g c =
    let s = c.self.inside in
    let h = c.self.invariant.states_long in
    let lt = rw (← c.self.view_is) at c.requires.within in
    let inside = in-lists s.entries.items s.states.items s.kept.items c.args.place h lt in
    let live = rw (← c.self.view_is) at c.requires.live in
    let changed = rw c.as_slice.ensures.value at c.state_without_item.ensures in
    rw (← c.self.view_is) (removed-at s.entries.items s.states.items s.kept.items c.args.place c.args.wanted c.state_without_item.result h inside.0 live changed)
