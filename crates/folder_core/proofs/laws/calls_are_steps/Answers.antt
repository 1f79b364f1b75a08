use Rattle.folder_core.proofs.CallSteps.{calls_are_steps}
use Rattle.folder_core.proofs.laws.calls_are_steps.Goals as goal

pub returns : goal.returns
returns g c = calls_are_steps g.D.Dumping.is_dump
