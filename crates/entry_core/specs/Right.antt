-- By what right a session of messages was a user's.
use Rattle.std.specs.Arc.{arc_value}
use Rattle.std.specs.Prelude.{◌≡◌}
use Rattle.session_core.specs.Machines.{Right}
use Rattle.session_core.specs.declared.admission.Admission.TheVariants as admissions
use Rattle.entry_core.specs.Proved.{HasProved}

-- By what right a session that was admitted so was this user's: anyone is who he says; who is known is the
-- one who is known; and who had to log in has proved that he is he.
abbrev pub HasEnteredAs : Right
HasEnteredAs admissions.Anyone traffic user = Unit {0}
HasEnteredAs (admissions.Known known) traffic user = user ≡ known
HasEnteredAs (admissions.Login file secret own) traffic user =
    HasProved (arc_value file).users secret own traffic user
