use Rattle.load_core.proofs.Once.{loads_once}
use Rattle.load_core.proofs.laws.lines_load_one_journal.Goals as goal

pub returns : goal.returns
returns c = loads_once
