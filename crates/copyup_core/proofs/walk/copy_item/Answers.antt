use Rattle.std.proofs.Common.{None, get_or, length, ap, arith}
use Rattle.copyup_core.specs.Slot.{Slot, numbered}
use Rattle.copyup_core.proofs.walk.copy_item.Goals as goal

pub push_reserved-requires : goal.push_reserved-requires
push_reserved-requires g c =
    let d : Slot g.row.V.Denot = record { number = 0; live = None; kept = None } in
    let n = (get_or c.args.slots.now.items c.args.place d).number in
    let had = rw c.in-Some.is at c.had.ensures in
    omega (arith, c.requires.room d, ap (λ o. length (numbered n o)) (had d))
