use Rattle.load_core.proofs.GoneOn.{gone_on}
use Rattle.load_core.proofs.laws.gone_on_is_kept.Goals as goal

pub returns : goal.returns
returns c = gone_on
