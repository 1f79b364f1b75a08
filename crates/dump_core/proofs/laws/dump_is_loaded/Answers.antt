use Rattle.dump_core.proofs.Loaded.{dump-loaded}
use Rattle.dump_core.proofs.laws.dump_is_loaded.Goals as goal

pub returns : goal.returns
returns c = dump-loaded
