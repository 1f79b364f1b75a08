use Rattle.std.proofs.Common.{sym, subst}
use Rattle.lines_core.specs.Feeding.{FeedingState}
use Rattle.lines_core.specs.Serving.{traffic_of}
use Rattle.session_core.specs.Parking.{ParkedState, HasCome, parked_first}
use Rattle.session_core.proofs.Resuming.{come_first}
use Rattle.session_core.proofs.parked.ParkedSessionMachine.new.Goals as goal

pub returns-clause-come : goal.returns-clause-come
returns-clause-come g c = λ desk admission left taken.
    let first : ParkedState g.row.K.Denot = parked_first in
    subst (λ (f : FeedingState). HasCome desk admission (record first { feeding = f }) (traffic_of left left taken taken)) (sym c.in_ok-feeding.ensures)
    (come_first desk admission left taken)
