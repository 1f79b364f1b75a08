use Rattle.load_core.proofs.GoneOn.{script_on}
use Rattle.load_core.proofs.laws.gone_on_script_is_kept.Goals as goal

pub returns : goal.returns
returns g c = script_on g.W.Errands.may_run g.W.Errands.knows
