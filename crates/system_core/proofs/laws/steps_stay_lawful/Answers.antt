use Rattle.system_core.proofs.Lawful.{step-lawful}
use Rattle.system_core.proofs.laws.steps_stay_lawful.Goals as goal

pub returns : goal.returns
returns c = step-lawful
