use Rattle.std.proofs.Common.{arith}
use Rattle.copyup_core.proofs.Parallel.{length-slots_of}
use Rattle.copyup_core.proofs.slots.Slots.len.Goals as goal

pub returns : goal.returns
returns g c =
    let s = c.self.inside in
    let h = c.self.invariant.states_long in
    rw (← c.self.view_is) (omega (arith, length-slots_of s.entries.items s.states.items s.kept.items h, s.entries.ok))
