-- How a session of messages stands once its user is welcome.
use Rattle.std.specs.Prelude.{◌≡◌, ◌≤◌, ℕ, Bool, true, false, not, List, [], ◌∷◌, ◌++◌, filter, find, slice_set, Option, Some, None, position}
use Rattle.std.specs.List.{count_by}
use Rattle.std.specs.Str.{bytes_eq}
use Rattle.base_core.specs.declared.value.Moment.{Moment}
use Rattle.messages_core.specs.declared.server.Status.{Status}
use Rattle.messages_core.specs.declared.server.Status.TheVariants as statuses
use Rattle.session_core.specs.Session.{last_moment, one_more}
use Rattle.sending_core.specs.Owing.{Lefts}
use Rattle.sending_core.specs.Queue.{Queue, capacity}
use Rattle.sending_core.specs.declared.item.Item.{Item}
use Rattle.preparing_core.specs.declared.prepared.Prepared.{Prepared}
use Rattle.conversation_core.specs.declared.statements.NamedStatement.{NamedStatement}
use Rattle.conversation_core.specs.declared.portals.Bound.{Bound}

-- How the block of statements stands; whether messages are passed over up to the next Sync; what was
-- prepared; the portals by their places, and the rows that each has left; how many statements were answered;
-- the moment of the last reply that bore one; whether the session is over; and whether a reply was withheld.
pub record ConversationState : Type 0 where
  pub block : Status
  pub skipping : Bool
  pub statements : List NamedStatement
  pub portals : List (Option Bound)
  pub lefts : Lefts
  pub answered : ℕ
  pub moment : Option Moment
  pub over : Bool
  pub unkept : Bool

-- the same, with what is still to be sent
pub record Conversing : Type 0 where
  pub state : ConversationState
  pub sending : Queue

-- before the first message
abbrev pub unspoken : ConversationState
unspoken = record {
  block = statuses.Idle;
  skipping = false;
  statements = [];
  portals = [];
  lefts = [];
  answered = 0;
  moment = None;
  over = false;
  unkept = false;
}

-- an error fails the block that is open
abbrev pub failed : Status → Status
failed statuses.Idle = statuses.Idle
failed statuses.InTransaction = statuses.InFailedTransaction
failed statuses.InFailedTransaction = statuses.InFailedTransaction

-- behind an error of a Query
abbrev pub behind_error : ConversationState → ConversationState
behind_error old = record old { block = failed old.block }

-- behind an error of a message of the extended protocol: what follows is passed over up to the next Sync
abbrev pub behind_problem : ConversationState → ConversationState
behind_problem old = record old { block = failed old.block; skipping = true }

abbrev pub ended : ConversationState → ConversationState
ended old = record old { over = true }

-- a statement more was answered, by a reply that bears this moment, if it bears one
abbrev pub noted : Option Moment → ConversationState → ConversationState
noted at old = record old {
  answered = one_more old.answered;
  moment = last_moment at old.moment;
}

-- ---- prepared statements
abbrev pub is_called : List ℕ → NamedStatement → Bool
is_called name s = bytes_eq s.name name

-- what was prepared by this name
abbrev pub statement_named : List ℕ → List NamedStatement → Option NamedStatement
statement_named name statements = find (is_called name) statements

-- all but that
abbrev pub without_statement : List ℕ → List NamedStatement → List NamedStatement
without_statement name statements = filter (λ s. not (is_called name s)) statements

-- this was prepared by this name, in place of what was before
abbrev pub with_statement : List ℕ → Prepared → List NamedStatement → List NamedStatement
with_statement name made statements =
    without_statement name statements ++ record { name = name; prepared = made } ∷ []

-- the unnamed statement, or the unnamed portal
abbrev pub is_unnamed : List ℕ → Bool
is_unnamed [] = true
is_unnamed (b ∷ bs) = false

-- how many were prepared by a name
abbrev pub statement_count : List NamedStatement → ℕ
statement_count statements = count_by (λ s. not (is_unnamed s.name)) statements

-- ---- portals
abbrev pub is_portal_called : List ℕ → Option Bound → Bool
is_portal_called name None = false
is_portal_called name (Some portal) = bytes_eq portal.name name

-- the place of the portal of this name
abbrev pub portal_place : List ℕ → List (Option Bound) → Option ℕ
portal_place name portals = position (is_portal_called name) portals

abbrev pub is_named_portal : Option Bound → Bool
is_named_portal None = false
is_named_portal (Some portal) = not (is_unnamed portal.name)

-- how many portals have a name
abbrev pub portal_count : List (Option Bound) → ℕ
portal_count portals = count_by is_named_portal portals

-- this stands at the place, and no rows are left of it
abbrev pub put_portal : ℕ → Option Bound → ConversationState → ConversationState
put_portal place portal old = record old {
  portals = slice_set old.portals place portal;
  lefts = slice_set old.lefts place None;
}

-- the portal at the place is closed, if there is one
abbrev pub closed_at : Option ℕ → ConversationState → ConversationState
closed_at None old = old
closed_at (Some place) old = put_portal place None old

-- all are closed
abbrev pub without_portals : ConversationState → ConversationState
without_portals old = record old { portals = []; lefts = [] }

-- ---- what is added
-- An answer was added to what is to be sent, and the session stands so behind it.
pub record Adds (old new : Conversing) (IsAnswer : List Item → ConversationState → Type 0)
    : Type 0 where
  pub answer : List Item
  pub is : IsAnswer answer new.state
  pub added : new.sending.items ≡ old.sending.items ++ answer
  pub room : capacity old.sending ≤ capacity new.sending
