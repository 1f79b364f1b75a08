use Rattle.copyup_core.proofs.Parallel.{push-slots_of}
use Rattle.copyup_core.proofs.slots.Slots.push.Goals as goal

pub returns-clause-items : goal.returns-clause-items
returns-clause-items g c =
    let s = c.self.inside in
    let h = c.self.invariant.states_long in
    rw (← c.self.view_is, c.push_reserved.ensures.items, c.push_reserved-2.ensures.items) (push-slots_of s.entries.items s.states.items s.kept.items _ _ h c.self.invariant.kept_short)
