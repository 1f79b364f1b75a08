-- What a message of a user comes to.
use Rattle.std.specs.Prelude.{◌≡◌, ℕ, Bool, true, false, not, ◌&&◌, List, []}
use Rattle.base_core.specs.declared.name.User.{User}
use Rattle.messages_core.specs.declared.client.Bind.{Bind}
use Rattle.messages_core.specs.declared.client.Parse.{Parse}
use Rattle.messages_core.specs.declared.client.ClientMessage.{ClientMessage}
use Rattle.messages_core.specs.declared.client.ClientMessage.TheVariants as clients
use Rattle.messages_core.specs.declared.client.Target.TheVariants as targets
use Rattle.messages_core.specs.declared.server.Status.{Status}
use Rattle.messages_core.specs.declared.server.Status.TheVariants as statuses
use Rattle.desk_core.specs.Guarded.{DeskLock, DeskPass}
use Rattle.sending_core.specs.declared.item.Item.{Item}
use Rattle.sending_core.specs.declared.plain.Plain.TheVariants as plains
use Rattle.sending_core.specs.declared.problem.Problem.TheVariants as problems
use Rattle.conversation_core.specs.State.{ConversationState, closed_at, ended, portal_place, without_portals, without_statement}
use Rattle.conversation_core.specs.Telling.{fatal_error, plain}
use Rattle.conversation_core.specs.Querying.{AnswersQuery}
use Rattle.conversation_core.specs.Extending.{AnswersBind, AnswersExecute, AnswersParse, AnswersPortalDescribe, AnswersStatementDescribe}

-- whether the message is heard where others are passed over
abbrev pub ends_skipping : ClientMessage → Bool
ends_skipping clients.Sync = true
ends_skipping clients.Terminate = true
ends_skipping _ = false

-- whether the message is passed over, since one before it came to an error
abbrev pub is_passed_over : ConversationState → ClientMessage → Bool
is_passed_over old message = old.skipping && not (ends_skipping message)

-- behind a Sync: where no block is open its portals are closed
abbrev pub behind_sync : Status → ConversationState → ConversationState
behind_sync statuses.Idle old = record (without_portals old) { skipping = false }
behind_sync _ old = record old { skipping = false }

-- A message that is not passed over.
pub data Answers {K : Type 0} (desk : DeskLock K) (user : User) (old : ConversationState)
    (before : DeskPass K)
    : ClientMessage → List Item → ConversationState → DeskPass K → Type 0 where
  queried : {text : List ℕ} {answer : List Item} {new : ConversationState} {after : DeskPass K}
      → AnswersQuery desk user text old before answer new after
      → Answers desk user old before (clients.Query text) answer new after
  parsed : {parse : Parse} {answer : List Item} {new : ConversationState} {after : DeskPass K}
      → AnswersParse desk user parse old before answer new after
      → Answers desk user old before (clients.Parse parse) answer new after
  bound : {bind : Bind} {answer : List Item} {new : ConversationState}
      → AnswersBind bind old answer new
      → Answers desk user old before (clients.Bind bind) answer new before
  portal_described : {name : List ℕ} {answer : List Item} {new : ConversationState}
      {after : DeskPass K}
      → AnswersPortalDescribe desk user name old before answer new after
      → Answers desk user old before (clients.Describe targets.Portal name) answer new after
  statement_described : {name : List ℕ} {answer : List Item} {new : ConversationState}
      {after : DeskPass K}
      → AnswersStatementDescribe desk user name old before answer new after
      → Answers desk user old before (clients.Describe targets.Statement name) answer new after
  executed : {name : List ℕ} {most : ℕ} {answer : List Item} {new : ConversationState}
      {after : DeskPass K}
      → AnswersExecute desk user name most old before answer new after
      → Answers desk user old before (clients.Execute name most) answer new after
  portal_closed : {name : List ℕ} → Answers desk user old before
      (clients.Close targets.Portal name) (plain plains.CloseComplete)
      (closed_at (portal_place name old.portals) old) before
  statement_closed : {name : List ℕ} → Answers desk user old before
      (clients.Close targets.Statement name) (plain plains.CloseComplete)
      (record old { statements = without_statement name old.statements }) before
  -- all that was answered is written anyway
  flushed : Answers desk user old before clients.Flush [] old before
  synced : Answers desk user old before clients.Sync (plain (plains.Ready old.block))
      (behind_sync old.block old) before
  terminated : Answers desk user old before clients.Terminate [] (ended old) before
  not_expected : {body : List ℕ} → Answers desk user old before (clients.Password body)
      (fatal_error problems.NotExpected) (ended old) before

-- A message of a user whose session stands so: it is answered with these items, and then the session
-- stands so and the pass knows this.
pub data ComesTo {K : Type 0} (desk : DeskLock K) (user : User) (old : ConversationState)
    (before : DeskPass K) (message : ClientMessage)
    : List Item → ConversationState → DeskPass K → Type 0 where
  passed_over : is_passed_over old message ≡ true
      → ComesTo desk user old before message [] old before
  heard : {answer : List Item} {new : ConversationState} {after : DeskPass K}
      → is_passed_over old message ≡ false
      → Answers desk user old before message answer new after
      → ComesTo desk user old before message answer new after
