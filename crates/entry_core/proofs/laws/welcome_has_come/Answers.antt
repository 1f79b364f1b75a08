use Rattle.entry_core.proofs.Coming.{welcome}
use Rattle.entry_core.proofs.laws.welcome_has_come.Goals as goal

pub returns : goal.returns
returns c = λ admission name traffic user entered. welcome admission name traffic user entered
