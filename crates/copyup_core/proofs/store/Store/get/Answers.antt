use Rattle.std.proofs.Common.{None, sym, ◌∙◌}
use Rattle.copyup_core.specs.Slot.{Slot}
use Rattle.copyup_core.proofs.store.Store.get.Goals as goal

pub returns : goal.returns
returns g c =
    let d : Slot g.row.V.Denot = record { number = 0; live = None; kept = None } in
    rw (← c.self.view_is) (sym (c.item.ensures d) ∙ (c.in_ok-place.ensures.item d).1)
