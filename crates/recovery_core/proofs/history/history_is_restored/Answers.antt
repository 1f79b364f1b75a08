use Rattle.recovery_core.proofs.Histories.{history_restored}
use Rattle.recovery_core.proofs.history.history_is_restored.Goals as goal

pub returns : goal.returns
returns c = history_restored
