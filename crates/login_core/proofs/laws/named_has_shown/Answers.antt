use Rattle.login_core.specs.Exchange.{Named}
use Rattle.login_core.proofs.Standing.{named_has_shown}
use Rattle.login_core.proofs.laws.named_has_shown.Goals as goal

pub returns : goal.returns
returns c = λ users secret own messages user run. named_has_shown users secret own messages (Named user) run
