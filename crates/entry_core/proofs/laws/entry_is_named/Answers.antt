use Rattle.entry_core.proofs.Coming.{welcome_named, login_named}
use Rattle.entry_core.proofs.laws.entry_is_named.Goals as goal

pub returns-clause-welcome : goal.returns-clause-welcome
returns-clause-welcome c = λ admission name user entered. welcome_named admission name user entered

pub returns-clause-login : goal.returns-clause-login
returns-clause-login c = λ admission name user entered. login_named admission name user entered
