-- What a server's log says of sessions.
use Rattle.std.specs.Prelude.{ℕ, Bool, true, List, ◌++◌, codes, decimal, Option, Some, None}
use Rattle.base_core.specs.declared.name.User.{User}
use Rattle.base_core.specs.declared.value.Moment.{Moment}
use Rattle.lines_core.specs.declared.serving.SessionFault.TheVariants as faults
use Rattle.session_core.specs.declared.session_end.SessionEnd.{SessionEnd}
use Rattle.session_core.specs.declared.session_end.SessionEnd.TheVariants as session_ends
use Rattle.session_core.specs.declared.summary.Summary.{Summary}
use Rattle.session_core.specs.EndNames.{end_name}

-- how a session's fault is told, where it is known whether the client took too long
abbrev pub fault_cause : SessionEnd → Bool → List ℕ
fault_cause (session_ends.Session faults.Read) true = codes "idle, sent nothing"
fault_cause (session_ends.Session faults.Write) true = codes "idle, took nothing"
fault_cause ended late = end_name ended

-- the session of this number: what comes behind
abbrev pub of_session : ℕ → List ℕ → List ℕ
of_session number said = codes "session " ++ (decimal number ++ said)

-- the line of a fault, in a log that tells of sessions by their numbers
abbrev pub numbered_fault : ℕ → SessionEnd → Bool → List ℕ
numbered_fault number ended late =
    of_session number (codes " fault: " ++ (fault_cause ended late ++ codes "\n"))

-- and in one that does not
abbrev pub plain_fault : SessionEnd → List ℕ
plain_fault ended = codes "session fault: " ++ (end_name ended ++ codes "\n")

-- the line of a session that begins
abbrev pub begun_text : ℕ → List ℕ → List ℕ
begun_text number peer = of_session number (codes " begun: peer " ++ (peer ++ codes "\n"))

-- the line of a statement of this user that was denied so
abbrev pub denied_text : ℕ → User → List ℕ → List ℕ
denied_text number user reply =
    of_session number (codes " user " ++ (user.0 ++ (codes ": " ++ reply)))

-- `-` stands for a user whom nobody named
abbrev pub user_text : Option User → List ℕ
user_text (Some user) = user.0
user_text None = codes "-"

-- the line of a login that was refused
abbrev pub refused_text : Option User → List ℕ → List ℕ
refused_text user peer =
    codes "login refused: user " ++ (user_text user ++ (codes ", peer " ++ (peer ++ codes "\n")))

-- the line of a client who was turned away, as too many sessions were open
abbrev pub full_text : List ℕ → List ℕ
full_text peer = codes "session refused: peer " ++ (peer ++ codes "\n")

-- `-` stands too for a moment where no reply bore one
abbrev pub moment_text : Option Moment → List ℕ
moment_text (Some at) = decimal at.0
moment_text None = codes "-"

-- how many lines were answered, and when the last of them was
abbrev pub counts_text : Summary → List ℕ
counts_text summary =
    codes ", lines " ++ (decimal summary.lines
    ++ (codes ", moment " ++ (moment_text summary.moment ++ codes "\n")))

-- the line of a session that has ended
abbrev pub ended_text : ℕ → List ℕ → Summary → List ℕ
ended_text number peer summary =
    of_session number (codes " ended: user " ++ (user_text summary.user
    ++ (codes ", peer " ++ (peer ++ counts_text summary))))
