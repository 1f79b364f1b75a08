-- How a session begins: what its client's start comes to, and a login by SASL.
use Rattle.std.specs.Prelude.{◌≡◌, ℕ, List, [], ◌++◌, Option, Some, None}
use Rattle.std.specs.Arc.{arc_value}
use Rattle.std.proofs.Common.{Vec, Global}
use Rattle.base_core.specs.declared.name.Name.{Name}
use Rattle.base_core.specs.declared.name.User.{User}
use Rattle.login_core.specs.Users.{Users}
use Rattle.login_core.specs.Login.{Beginning}
use Rattle.messages_core.specs.declared.client.ClientMessage.{ClientMessage}
use Rattle.messages_core.specs.declared.client.ClientMessage.TheVariants as clients
use Rattle.messages_core.specs.declared.start.StartMessage.{StartMessage}
use Rattle.messages_core.specs.declared.start.StartMessage.TheVariants as starts
use Rattle.session_core.specs.declared.admission.Admission.{Admission}
use Rattle.session_core.specs.declared.admission.Admission.TheVariants as admissions
use Rattle.entry_core.specs.Naming.{user_named}
use Rattle.entry_core.specs.Entries.{entry_of}
use Rattle.entry_core.specs.Steps.{IsFirstStep, IsLastStep}
use Rattle.entry_core.specs.declared.entry.Entry.{Entry}
use Rattle.entry_core.specs.declared.entry.Entry.TheVariants as entries
use Rattle.entry_core.specs.declared.first_step.FirstStep.TheVariants as first_steps
use Rattle.entry_core.specs.declared.last_step.LastStep.TheVariants as last_steps
use Rattle.sending_core.specs.declared.item.Item.{Item}
use Rattle.sending_core.specs.declared.plain.Plain.TheVariants as plains
use Rattle.sending_core.specs.declared.problem.Problem.TheVariants as problems
use Rattle.conversation_core.specs.Telling.{fatal_error, plain}
use Rattle.wire_core.specs.State.{ClientState, gone}

-- what is told by how a client comes in
abbrev pub entry_items : Entry → List Item
entry_items (entries.Welcome user) = plain plains.Welcome
entry_items (entries.Login name) = plain plains.LoginWanted
entry_items entries.Refused = fatal_error problems.NoUser

abbrev pub behind_entry : Entry → ClientState → ClientState
behind_entry (entries.Welcome user) old = record old { user = Some user }
behind_entry (entries.Login name) old = record old { claimed = Some name }
behind_entry entries.Refused old = gone old

-- What a client is told for what it sends first: to encrypt the connection is refused, a cancel is not
-- answered, and a start is by whom it names.
abbrev pub start_items : Admission → StartMessage → List Item
start_items admission starts.SslRequest = plain plains.NoEncryption
start_items admission starts.GssEncRequest = plain plains.NoEncryption
start_items admission (starts.CancelRequest process secret) = []
start_items admission (starts.Startup parameters) =
    entry_items (entry_of admission (user_named parameters))

abbrev pub behind_start : Admission → StartMessage → ClientState → ClientState
behind_start admission starts.SslRequest old = old
behind_start admission starts.GssEncRequest old = old
behind_start admission (starts.CancelRequest process secret) old = gone old
behind_start admission (starts.Startup parameters) old =
    behind_entry (entry_of admission (user_named parameters)) old

-- He is welcomed with the answer to his last message; or there was no memory for that.
pub data WelcomesBy (user : User) (answer : List ℕ) (old : ClientState)
    : List Item → ClientState → Type 0 where
  welcomed : WelcomesBy user answer old (plain (plains.Signature answer) ++ plain plains.Welcome)
      (record old { user = Some user })
  exhausted : WelcomesBy user answer old (fatal_error problems.NoMemory) (gone old)

-- What a body comes to in the login of the user of this name: it begins the login, or is the last of it.
pub data LogsInBy (users : Users) (secret own : List ℕ) (name : Name) (body : List ℕ)
    (old : ClientState) : List Item → ClientState → Type 0 where
  challenged : {begun : Beginning} → old.begun ≡ None
      → IsFirstStep users secret own name body (first_steps.Challenged begun)
      → LogsInBy users secret own name body old (plain (plains.Challenge begun.server_first))
      (record old { begun = Some begun })
  not_begun : old.begun ≡ None → IsFirstStep users secret own name body first_steps.Refused
      → LogsInBy users secret own name body old (fatal_error problems.RefusedLogin) (gone old)
  logged_in : (begun : Beginning) (user : User) (answer : Vec ℕ Global) {told : List Item}
      {new : ClientState} → old.begun ≡ Some begun
      → IsLastStep users begun body (last_steps.LoggedIn user answer)
      → WelcomesBy user answer.items old told new
      → LogsInBy users secret own name body old told new
  refused : (begun : Beginning) → old.begun ≡ Some begun
      → IsLastStep users begun body last_steps.Refused
      → LogsInBy users secret own name body old (fatal_error problems.RefusedLogin) (gone old)
  exhausted : LogsInBy users secret own name body old (fatal_error problems.NoMemory) (gone old)

-- the client has to log in, and this is so of the users, the secret and the server's own nonce
abbrev pub WhereLogin : Admission → (Users → List ℕ → List ℕ → Type 0) → Type 0
WhereLogin admissions.Anyone P = ⊥
WhereLogin (admissions.Known user) P = ⊥
WhereLogin (admissions.Login file secret own) P = P (arc_value file).users secret own

-- it has not
abbrev pub IsNoLogin : Admission → Type 0
IsNoLogin admissions.Anyone = Unit {0}
IsNoLogin (admissions.Known user) = Unit {0}
IsNoLogin (admissions.Login file secret own) = ⊥

-- whether a message may come while its client has to log in
abbrev pub NotExpected : ClientMessage → Type 0
NotExpected (clients.Password body) = ⊥
NotExpected clients.Terminate = ⊥
NotExpected _ = Unit {0}

-- What a message comes to while its client has to log in as the user of this name.
pub data EntersBy (admission : Admission) (name : Name) (old : ClientState)
    : ClientMessage → List Item → ClientState → Type 0 where
  login : {body : List ℕ} {answer : List Item} {new : ClientState}
      → WhereLogin admission
      (λ users secret own. LogsInBy users secret own name body old answer new)
      → EntersBy admission name old (clients.Password body) answer new
  left : EntersBy admission name old clients.Terminate [] (gone old)
  not_expected : {message : ClientMessage} → NotExpected message
      → EntersBy admission name old message (fatal_error problems.NotExpected) (gone old)
  -- nobody has to log in
  no_login : {body : List ℕ} → IsNoLogin admission
      → EntersBy admission name old (clients.Password body) (fatal_error problems.NotExpected)
      (gone old)
