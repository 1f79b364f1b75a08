use Rattle.load_core.proofs.GoneOn.{kept_on}
use Rattle.load_core.proofs.laws.kept_goes_on.Goals as goal

pub returns : goal.returns
returns c = kept_on
