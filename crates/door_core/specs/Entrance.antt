-- Where clients come in, and as whom.
use Rattle.std.specs.Arc.{arc_value}
use Rattle.std.specs.Prelude.{◌≡◌, ℕ, Bool, false, List, Contains}
use Rattle.base_core.specs.declared.name.User.{User}
use Rattle.login_core.specs.Users.{SayUsers}
use Rattle.session_core.specs.declared.admission.Admission.{Admission}
use Rattle.session_core.specs.declared.admission.Admission.TheVariants as admissions

-- whether clients have to log in, and the users who have sockets of their own
pub record Admittance : Type 0 where
  pub login : Bool
  pub sockets : List User

-- How sessions come by their users: where nobody has to log in, anyone is who he says; who came in at a
-- user's socket is that user; and else he logs in as one of the users of a file.
abbrev pub IsAdmitted : Admittance → Admission → Type 0
IsAdmitted by admissions.Anyone = by.login ≡ false
IsAdmitted by (admissions.Known user) = Contains by.sockets user
IsAdmitted by (admissions.Login file secret own) =
    ∥ ((text : List ℕ) × SayUsers text (arc_value file).users) ∥₁
