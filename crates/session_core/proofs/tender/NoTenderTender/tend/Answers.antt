use Rattle.session_core.specs.Tending.{untended}
use Rattle.session_core.proofs.tender.NoTenderTender.tend.Goals as goal

pub returns : goal.returns
returns g c = untended
