use Rattle.std.proofs.Common.{sym, ◌∙◌}
use Rattle.copyup_core.proofs.Parallel.{contents-unkept}
use Rattle.copyup_core.proofs.slots.Slots.items.Goals as goal

pub returns : goal.returns
returns g c =
    let s = c.self.inside in
    let e = rw (c.as_slice.ensures.value, c.as_slice-2.ensures.value) at c.new.ensures in
    rw (← c.self.view_is) (e ∙ sym (contents-unkept s.entries.items s.states.items s.kept.items))
