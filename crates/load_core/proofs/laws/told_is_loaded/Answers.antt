use Rattle.load_core.proofs.CutEnd.{told_on}
use Rattle.load_core.proofs.laws.told_is_loaded.Goals as goal

pub returns : goal.returns
returns c = told_on
