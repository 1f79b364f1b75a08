use Rattle.monitor_core.proofs.Lacking.{verdict-not_NoMemory}
use Rattle.monitor_core.proofs.laws.never_no_memory.Goals as goal

pub returns : goal.returns
returns c = verdict-not_NoMemory
