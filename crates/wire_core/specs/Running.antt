-- What a client sends, message by message, and what it is sent for that.
use Rattle.std.specs.Prelude.{◌≡◌, ◌≤◌, ◌<◌, ◌⊎◌, ℕ, true, false, List, [], ◌++◌, length, Option, Some, None}
use Rattle.base_core.specs.declared.name.Name.{Name}
use Rattle.base_core.specs.declared.name.User.{User}
use Rattle.messages_core.specs.Client.{spelling}
use Rattle.messages_core.specs.MessageReading.{IsMessageFault, IsMessageWithin}
use Rattle.messages_core.specs.Start.{IsStart, start_body, start_spelling}
use Rattle.messages_core.specs.StartReading.{IsStartFault}
use Rattle.messages_core.specs.declared.client.ClientMessage.{ClientMessage}
use Rattle.messages_core.specs.declared.client.MessageFault.{MessageFault}
use Rattle.messages_core.specs.declared.start.StartFault.{StartFault}
use Rattle.messages_core.specs.declared.start.StartMessage.{StartMessage}
use Rattle.desk_core.specs.Guarded.{DeskLock, DeskPass}
use Rattle.session_core.specs.Parking.{SeesNoLess, unseeing}
use Rattle.session_core.specs.declared.admission.Admission.{Admission}
use Rattle.sending_core.specs.Owing.{Lefts, Owes}
use Rattle.sending_core.specs.declared.item.Item.{Item}
use Rattle.sending_core.specs.declared.problem.Problem.TheVariants as problems
use Rattle.conversation_core.specs.State.{ConversationState}
use Rattle.conversation_core.specs.Messages.{ComesTo}
use Rattle.conversation_core.specs.Telling.{fatal_error}
use Rattle.wire_core.specs.State.{ClientAndQueue, ClientState, IsFront, gone, unknown, with_lefts}
use Rattle.wire_core.specs.Entering.{EntersBy, behind_start, start_items}
use Rattle.wire_core.specs.declared.client.TheConstants.{MOST_BODY_BYTES, MOST_LOGIN_BYTES}

-- what has come is no message that may come: of a client that has not begun, that has to log in, or of a
-- user
abbrev pub IsNoMessage : Option User → Option Name → List ℕ → Type 0
IsNoMessage (Some user) claimed came =
    (fault : MessageFault) × IsMessageFault MOST_BODY_BYTES came fault
IsNoMessage None (Some name) came =
    (fault : MessageFault) × IsMessageFault MOST_LOGIN_BYTES came fault
IsNoMessage None None came = (fault : StartFault) × IsStartFault MOST_LOGIN_BYTES came fault

-- What a client sends that nobody is welcome of yet, or that is no message: it is answered with these items,
-- and then the client has come so far.
pub data Enters (admission : Admission) (old : ClientState) (came : List ℕ)
    : List Item → ClientState → Type 0 where
  started : (start : StartMessage) → old.user ≡ None → old.claimed ≡ None
      → IsStart start → length (start_body start) ≤ MOST_LOGIN_BYTES
      → came ≡ start_spelling start
      → Enters admission old came (start_items admission start) (behind_start admission start old)
  messaged : (name : Name) (message : ClientMessage) {answer : List Item} {new : ClientState}
      → old.user ≡ None → old.claimed ≡ Some name
      → IsMessageWithin MOST_LOGIN_BYTES message → came ≡ spelling message
      → EntersBy admission name old message answer new
      → Enters admission old came answer new
  faulty : IsNoMessage old.user old.claimed came
      → Enters admission old came (fatal_error problems.BadMessage) (gone old)

-- What a client sends: it is answered with these items, and then the client has come so far and the pass knows
-- this. Nothing is answered once the session is over. The last is out of memory, and ends it.
pub data Takes {K : Type 0} (desk : DeskLock K) (admission : Admission) (old : ClientState)
    (before : DeskPass K) (came : List ℕ)
    : List Item → ClientState → DeskPass K → Type 0 where
  over : old.talk.over ≡ true → Takes desk admission old before came [] old before
  entered : {answer : List Item} {new : ClientState} → old.talk.over ≡ false
      → Enters admission old came answer new
      → Takes desk admission old before came answer new before
  said : (user : User) (message : ClientMessage) {answer : List Item} {talk : ConversationState}
      {after : DeskPass K} → old.talk.over ≡ false → old.user ≡ Some user
      → IsMessageWithin MOST_BODY_BYTES message → came ≡ spelling message
      → ComesTo desk user old.talk before message answer talk after
      → Takes desk admission old before came answer (record old { talk = talk }) after
  exhausted : old.talk.over ≡ false
      → Takes desk admission old before came (fatal_error problems.NoMemory) (gone old) before

-- of what has come only a front of a message: nothing is answered
pub record IsUnheard (old : ClientAndQueue) (came : List ℕ) (new : ClientAndQueue) : Type 0 where
  pub front : IsFront old.state came
  pub same : new ≡ old

-- What stands first was taken by who is not welcome yet, and so many bytes stand behind it; what is to be sent
-- is the answer.
pub record IsEntered (admission : Admission) (old : ClientAndQueue) (came : List ℕ) (rest : ℕ)
    (new : ClientAndQueue) : Type 0 where
  pub first : List ℕ
  pub behind : List ℕ
  pub cut : came ≡ first ++ behind
  pub rest_is : length behind ≡ rest
  pub enters : Enters admission old.state first new.sending.items new.state

-- the same of any client
pub record IsHeard {K : Type 0} (desk : DeskLock K) (admission : Admission) (old : ClientAndQueue)
    (before : DeskPass K) (came : List ℕ) (rest : ℕ) (new : ClientAndQueue) (after : DeskPass K)
    : Type 0 where
  pub first : List ℕ
  pub behind : List ℕ
  pub cut : came ≡ first ++ behind
  pub rest_is : length behind ≡ rest
  pub takes : Takes desk admission old.state before first new.sending.items new.state after

-- However much of what has come was kept before, as a front of a message, less stands behind the message than
-- has come since; or nothing stands behind it.
abbrev pub StandsBefore : ClientState → List ℕ → ℕ → Type 0
StandsBefore old came rest = (kept piece : List ℕ) → came ≡ kept ++ piece → IsFront old kept
    → (rest ≡ 0) ⊎ (rest < length piece)

-- How far a client has come that was admitted so, by all that it has sent: message by message, each through
-- a pass that has seen no less than the one before; and the text that it was sent for that.
pub data HasRun {K : Type 0} (desk : DeskLock K) (admission : Admission)
    : List ℕ → List ℕ → ClientState → DeskPass K → Type 0 where
  nothing : HasRun desk admission [] [] unknown unseeing
  more : {sent text came : List ℕ} (said : List ℕ) {old new : ClientState} {last before after : DeskPass K}
      {answer : List Item} {lefts : Lefts}
      → HasRun desk admission sent text old last
      → SeesNoLess desk last before
      → Takes desk admission old before came answer new after
      → Owes answer new.talk.lefts said lefts
      → HasRun desk admission (sent ++ came) (text ++ said) (with_lefts lefts new) after
