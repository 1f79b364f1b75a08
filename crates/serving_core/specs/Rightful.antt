-- By what right entries were made through a server.
use Rattle.base_core.specs.declared.name.User.{User}
use Rattle.lines_core.specs.Serving.{Traffic}
use Rattle.session_core.specs.declared.admission.Admission.{Admission}
use Rattle.session_core.specs.Machines.{Right}
use Rattle.door_core.specs.Entrance.{Admittance, IsAdmitted}

-- there was a session of the entrance, over the bytes of some client, that was this user's by right
pub record IsByRight (right : Right) (by : Admittance) (user : User) : Type 0 where
  pub admission : Admission
  pub admitted : IsAdmitted by admission
  pub traffic : Traffic
  pub come : right admission traffic user
