use Rattle.system_core.proofs.Entered.{step_enters}
use Rattle.system_core.proofs.laws.steps_enter_what_was_done.Goals as goal

pub returns : goal.returns
returns c = step_enters
