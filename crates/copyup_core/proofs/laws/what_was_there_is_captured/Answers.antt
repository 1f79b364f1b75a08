use Rattle.copyup_core.specs.Calls.{begun}
use Rattle.copyup_core.proofs.Running.{given-due}
use Rattle.copyup_core.proofs.laws.what_was_there_is_captured.Goals as goal

pub returns : goal.returns
returns g c = λ start given now l. given-due (begun start) given now l
