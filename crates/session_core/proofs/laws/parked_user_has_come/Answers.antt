use Rattle.session_core.specs.Showing.{parked_has_come}
use Rattle.session_core.proofs.laws.parked_user_has_come.Goals as goal

pub returns : goal.returns
returns g c = λ admission desk parked ending traffic user ended named. parked_has_come desk admission parked ending traffic user ended named
