-- A session of messages between two pieces of what its client sends.
use Rattle.std.specs.Prelude.{◌≡◌, ℕ, Bool, true, false, List, [], ◌∷◌, Option, Some, None}
use Rattle.base_core.specs.declared.name.Name.{Name}
use Rattle.base_core.specs.declared.name.User.{User}
use Rattle.login_core.specs.Login.{Beginning}
use Rattle.messages_core.specs.Frames.{WantsMore}
use Rattle.messages_core.specs.MessageReading.{IsPartOfMessage}
use Rattle.desk_core.specs.Guarded.{DeskNote}
use Rattle.session_core.specs.Machines.{MachineState}
use Rattle.sending_core.specs.Owing.{Lefts, count_owed}
use Rattle.sending_core.specs.Queue.{Queue}
use Rattle.sending_core.specs.declared.item.Item.{Item}
use Rattle.conversation_core.specs.State.{ConversationState, ended, unspoken}
use Rattle.wire_core.specs.declared.client.TheConstants.{MOST_BODY_BYTES, MOST_LOGIN_BYTES}

-- How far a client has come: whom its start names, if it has to log in; the login that was begun; its user,
-- once he is welcome; and how the session stands with him.
pub record ClientState : Type 0 where
  pub claimed : Option Name
  pub begun : Option Beginning
  pub user : Option User
  pub talk : ConversationState

-- the same, with what is still to be sent
pub record ClientAndQueue : Type 0 where
  pub state : ClientState
  pub sending : Queue

-- before anything has come
abbrev pub unknown : ClientState
unknown = record { claimed = None; begun = None; user = None; talk = unspoken }

-- its session is over
abbrev pub gone : ClientState → ClientState
gone old = record old { talk = ended old.talk }

-- these rows are left of its portals
abbrev pub with_lefts : Lefts → ClientState → ClientState
with_lefts lefts old = record old { talk = record old.talk { lefts = lefts } }

-- What is kept of what has come: nothing where the session is over, and else a front of a message, by what
-- may come: of a start, of a message of a login, or of one that a user sends.
abbrev pub IsFrontIn : Bool → Option User → Option Name → List ℕ → Type 0
IsFrontIn true user claimed kept = kept ≡ []
IsFrontIn false (Some user) claimed kept = IsPartOfMessage MOST_BODY_BYTES kept
IsFrontIn false None (Some name) kept = IsPartOfMessage MOST_LOGIN_BYTES kept
IsFrontIn false None None kept = WantsMore 4 MOST_LOGIN_BYTES kept

abbrev pub IsFront : ClientState → List ℕ → Type 0
IsFront client kept = IsFrontIn client.talk.over client.user client.claimed kept

-- What lies between two pieces: what is kept of a message that has begun; how many bytes may still come; how
-- far the client has come, and what it is still to be sent; and the note of the pass that the session went
-- through last.
pub record WireState (K : Type 0) : Type 0 where
  pub kept : List ℕ
  pub unread : ℕ
  pub client : ClientState
  pub sending : Queue
  pub note : Option (DeskNote K)

-- how many calls what is to be sent takes at most, if anything is
abbrev pub calls_owed : List Item → Option ℕ
calls_owed [] = None
calls_owed (item ∷ others) = Some (count_owed (item ∷ others))

-- what of it is known of a session in any protocol
abbrev pub wire_machine : {K : Type 0} → WireState K → MachineState K
wire_machine wire = record {
  unread = wire.unread;
  begun = wire.client.begun;
  user = wire.client.user;
  over = wire.client.talk.over;
  unkept = wire.client.talk.unkept;
  answered = wire.client.talk.answered;
  moment = wire.client.talk.moment;
  lost = false;
  owed = calls_owed wire.sending.items;
  note = wire.note;
}
