use Rattle.std.proofs.Common.{sym, subst}
use Rattle.door_core.specs.Entrance.{Admittance, IsAdmitted}
use Rattle.server_core.proofs.worker.open_door.Goals as goal

pub take_in-requires : goal.take_in-requires
take_in-requires g c =
    let right = rw c.in-Ok.is at c.admit-admitted.ensures.right in
    subst (λ (by : Admittance). IsAdmitted by c.in-Ok.arrival.admission) (sym c.requires.by) right
