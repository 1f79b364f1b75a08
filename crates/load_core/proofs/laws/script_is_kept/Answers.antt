use Rattle.load_core.proofs.Again.{kept_again}
use Rattle.load_core.proofs.laws.script_is_kept.Goals as goal

pub returns : goal.returns
returns g c = kept_again g.W.Errands.may_run g.W.Errands.knows
