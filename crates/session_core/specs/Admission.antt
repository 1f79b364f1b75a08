-- How a session comes by its user, and what a line comes to before he is welcome.
use Rattle.std.specs.Arc.{arc_value}
use Rattle.std.specs.Prelude.{◌≡◌, ℕ, ◌≤◌, ◌⊎◌, List, [], ◌++◌, length, codes, Option, Some, None, Ok, Err}
use Rattle.base_core.specs.declared.name.User.{User}
use Rattle.lexer_core.specs.declared.fault.Code.TheVariants as faults
use Rattle.reply_core.specs.Texts.{fault_text, unread_text}
use Rattle.login_core.specs.Users.{Users}
use Rattle.login_core.specs.Login.{Beginning, IsNoOpening, Opens, LogsIn, Refuses}
use Rattle.session_core.specs.declared.admission.Admission.{Admission}
use Rattle.session_core.specs.declared.admission.Admission.TheVariants as admissions
use Rattle.session_core.specs.declared.reception.Reception.{Reception}
use Rattle.session_core.specs.declared.reception.Reception.TheVariants as receptions
use Rattle.session_core.specs.Greeting.{greeting}

-- the greatest number of bytes of a message of a login
abbrev pub longest_message : ℕ
longest_message = 1024

-- what a line comes to that has to name a user
abbrev pub ReceivesName : List ℕ → Reception → Type 0
ReceivesName line (receptions.Welcomed user answer) = (greeting line ≡ Ok user) × (answer.items ≡ [])
ReceivesName line (receptions.Faulty code offset) = greeting line ≡ Err (code, offset)
ReceivesName line _ = ⊥

-- the line names a user who is another one
abbrev pub NamesAnother : User → List ℕ → Type 0
NamesAnother known line = (user : User) × (greeting line ≡ Ok user) × (user ≡ known → ⊥)

-- what a line comes to that has to name this user
abbrev pub ReceivesKnown : User → List ℕ → Reception → Type 0
ReceivesKnown known line (receptions.Welcomed user answer) =
    (greeting line ≡ Ok user) × (user ≡ known) × (answer.items ≡ [])
ReceivesKnown known line (receptions.Faulty code offset) =
    (greeting line ≡ Err (code, offset))
    ⊎ (NamesAnother known line × (code ≡ faults.Expected) × (offset ≡ 0))
ReceivesKnown known line _ = ⊥

-- what a line comes to that has to begin a login, of these users, with this secret and this nonce of the
-- server's own
abbrev pub ReceivesOpening : Users → List ℕ → List ℕ → List ℕ → Reception → Type 0
ReceivesOpening users secret own line (receptions.Challenged begun) =
    (length line ≤ longest_message) × Opens users secret own line begun
ReceivesOpening users secret own line (receptions.Faulty code offset) =
    (code ≡ faults.Expected) × (offset ≡ 0) × (length line ≤ longest_message → IsNoOpening line)
ReceivesOpening users secret own line receptions.Unread = length line ≤ longest_message
ReceivesOpening users secret own line _ = ⊥

-- What a line comes to that has to be the last message of a login, and to prove that its client is the user
-- who has begun it. The answer to it comes before his welcome.
abbrev pub ReceivesLast : Users → Beginning → List ℕ → Reception → Type 0
ReceivesLast users begun line (receptions.Welcomed user answer) =
    (length line ≤ longest_message)
    × (user.0 ≡ begun.user)
    × ((signed : List ℕ) × LogsIn users begun line signed × (answer.items ≡ signed ++ codes "\n"))
ReceivesLast users begun line receptions.Refused =
    length line ≤ longest_message → Refuses users begun line
ReceivesLast users begun line receptions.Unread = length line ≤ longest_message
ReceivesLast users begun line _ = ⊥

-- What a line comes to while nobody is welcome. Where anyone is admitted, it names the user; where he is
-- known, it has to name him. Where he has to log in, it begins that, and the next has to be its last message.
abbrev pub Receives : Admission → Option Beginning → List ℕ → Reception → Type 0
Receives admissions.Anyone begun line reception = ReceivesName line reception
Receives (admissions.Known user) begun line reception = ReceivesKnown user line reception
Receives (admissions.Login file secret own) None line reception =
    ReceivesOpening (arc_value file).users secret own line reception
Receives (admissions.Login file secret own) (Some begun) line reception =
    ReceivesLast (arc_value file).users begun line reception

-- what is written for a user who is welcome
abbrev pub welcome_text : User → List ℕ
welcome_text user = codes "welcome " ++ user.0 ++ codes "\n"

abbrev pub refused_login_text : List ℕ
refused_login_text = codes "refused: login\n"

-- what is written for a line while nobody is welcome
abbrev pub reception_text : Reception → List ℕ
reception_text (receptions.Welcomed user answer) = answer.items ++ welcome_text user
reception_text (receptions.Challenged begun) = begun.server_first ++ codes "\n"
reception_text (receptions.Faulty code offset) = fault_text code offset
reception_text receptions.Refused = refused_login_text
reception_text receptions.Unread = unread_text
