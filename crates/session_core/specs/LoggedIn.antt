-- By what right a session was a user's.
use Rattle.std.specs.Arc.{arc_value}
use Rattle.std.specs.Prelude.{◌≡◌, ◌⊎◌, ℕ, List, ◌++◌}
use Rattle.std.specs.Str.Lines.{lines}
use Rattle.std.specs.Io.KnownBytes.{Consumes}
use Rattle.base_core.specs.declared.name.User.{User}
use Rattle.login_core.specs.Users.{Users}
use Rattle.login_core.specs.Exchange.{HasShown}
use Rattle.lines_core.specs.Lines.{whole_lines}
use Rattle.lines_core.specs.Serving.{Traffic}
use Rattle.session_core.specs.declared.admission.Admission.{Admission}
use Rattle.session_core.specs.declared.admission.Admission.TheVariants as admissions

-- The client has sent these messages, line by line, and has shown by them that he is the user.
pub record HasLoggedIn (users : Users) (secret own : List ℕ) (traffic : Traffic) (user : User)
    : Type 0 where
  pub sent : List ℕ
  pub behind : List ℕ
  pub messages : List (List ℕ)
  pub read : Consumes traffic.left traffic.left' (sent ++ behind)
  pub lines_are : (messages ≡ lines sent) ⊎ (messages ≡ whole_lines sent)
  pub shown : HasShown users secret own messages user.0

-- By what right a session that was admitted so was this user's: anyone is who he says; who is known is the
-- one who is known; and who had to log in has done so.
abbrev pub HasComeAs : Admission → Traffic → User → Type 0
HasComeAs admissions.Anyone traffic user = Unit {0}
HasComeAs (admissions.Known known) traffic user = user ≡ known
HasComeAs (admissions.Login file secret own) traffic user =
    HasLoggedIn (arc_value file).users secret own traffic user
