use Rattle.session_core.proofs.Login.{has_come}
use Rattle.session_core.proofs.laws.user_has_come.Goals as goal

pub returns : goal.returns
returns g c = λ admission desk summary old new traffic user ends named. has_come desk admission summary old new traffic user ends named
