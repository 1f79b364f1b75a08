use Rattle.folder_core.proofs.Outlives.{told_outlives}
use Rattle.folder_core.proofs.laws.told_outlives.Goals as goal

pub returns : goal.returns
returns g c = told_outlives g.D.Dumping.is_dump
