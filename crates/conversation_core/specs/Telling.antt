-- What a line that was asked is answered with, and how the session stands behind it.
use Rattle.std.specs.Prelude.{◌≡◌, ◌≢◌, ◌+◌, ℕ, Bool, true, false, not, List, [], ◌∷◌, ◌++◌, slice_get, Option, Some, None}
use Rattle.base_core.specs.Words.{folded}
use Rattle.base_core.specs.declared.value.Column.{Column}
use Rattle.lexer_core.specs.Lexing.{AreTokens}
use Rattle.lexer_core.specs.declared.fault.Code.{Code}
use Rattle.lexer_core.specs.declared.token.Token.{Token}
use Rattle.messages_core.specs.Columns.{format_at}
use Rattle.messages_core.specs.declared.server.Severity.TheVariants as severities
use Rattle.messages_core.specs.declared.server.Status.{Status}
use Rattle.messages_core.specs.declared.server.Status.TheVariants as statuses
use Rattle.parameters_core.specs.Positions.{IsOrigin, character_at}
use Rattle.utility_core.specs.Commands.{underscored_name}
use Rattle.utility_core.specs.Words.{words_of}
use Rattle.utility_core.specs.declared.command.Command.{Command}
use Rattle.utility_core.specs.declared.command.Command.TheVariants as commands
use Rattle.system_core.specs.Replies.{told_moment}
use Rattle.system_core.specs.declared.machine.event.Reply.{Reply}
use Rattle.system_core.specs.declared.machine.event.Reply.TheVariants as replies
use Rattle.answer_core.specs.declared.tag.Tag.{Tag}
use Rattle.answer_core.specs.declared.answering.Request.{Request}
use Rattle.sending_core.specs.declared.item.Item.{Item}
use Rattle.sending_core.specs.declared.item.Item.TheVariants as items
use Rattle.sending_core.specs.declared.plain.Plain.{Plain}
use Rattle.sending_core.specs.declared.plain.Plain.TheVariants as plains
use Rattle.sending_core.specs.declared.problem.Problem.{Problem}
use Rattle.sending_core.specs.declared.problem.Problem.TheVariants as problems
use Rattle.asking_core.specs.declared.manner.Bar.{Bar}
use Rattle.asking_core.specs.declared.manner.Bar.TheVariants as bars
use Rattle.asking_core.specs.declared.asking.Asked.{Asked}
use Rattle.asking_core.specs.declared.asking.Asked.TheVariants as askeds
use Rattle.conversation_core.specs.State.{ConversationState, ended, noted, statement_named, without_portals, without_statement}
use Rattle.conversation_core.specs.declared.telling.Telling.{Telling}

-- one message
abbrev pub plain : Plain → List Item
plain message = items.Plain message ∷ []

-- an error
abbrev pub error : Problem → List Item
error problem = plain (plains.Error severities.Error problem)

-- an error that ends the session
abbrev pub fatal_error : Problem → List Item
fatal_error problem = plain (plains.Error severities.Fatal problem)

-- what bars a statement, as it is told
abbrev pub bar_problem : Bar → Problem
bar_problem bars.FailedBlock = problems.FailedBlock
bar_problem bars.ChangeInBlock = problems.ChangeInBlock
bar_problem bars.ChangeAmongSeveral = problems.ChangeAmongSeveral

-- whether a reply is told as an error
abbrev pub is_error : Reply → Bool
is_error (replies.Denied at lack) = true
is_error (replies.Refused at lack) = true
is_error _ = false

-- the item, if it is wanted
abbrev pub where_wanted : Bool → Plain → List Item
where_wanted true message = plain message
where_wanted false message = []

-- What describes the rows of a reply before they come: the columns of its table, where those were asked for;
-- of CHECKPOINTS and of an export their own, where a description is wanted.
abbrev pub column_items : Telling → Reply → Option (List Column) → List Item
column_items telling (replies.Rows at rows) (Some columns) =
    plain (plains.Columns columns telling.formats)
column_items telling (replies.Listed at entries) columns =
    where_wanted telling.is_described (plains.CheckpointColumns telling.formats)
column_items telling (replies.Export ticket) columns =
    where_wanted telling.is_described (plains.ExportColumns telling.formats)
column_items telling _ columns = []

-- what is asked for of a reply to a statement of this kind
abbrev pub request_of : Telling → Tag → Request
request_of telling tag =
    record { tag = tag; formats = telling.formats; most = telling.most }

-- ---- commands
-- whether a statement of the block has failed
abbrev pub is_failed : Status → Bool
is_failed statuses.Idle = false
is_failed statuses.InTransaction = false
is_failed statuses.InFailedTransaction = true

-- Whether a command is carried out by nothing but its answer, and how the block stands then: not one that
-- the server does not do, nor DEALLOCATE of a name, nor COMMIT of a block that has failed.
abbrev pub is_plain_command : Status → Command → Bool
is_plain_command block commands.Commit = not (is_failed block)
is_plain_command block commands.UnknownSetting = false
is_plain_command block commands.Unserved = false
is_plain_command block (commands.Deallocate token) = false
is_plain_command block commands.DeallocateUnderscored = false
is_plain_command block _ = true

-- what such a command answers: its row, if it has one, and its tag
abbrev pub command_items : Telling → Command → List Item
command_items telling command =
    let format = format_at telling.formats 0 in
    where_wanted telling.is_described (plains.CommandColumn command format)
    ++ (plain (plains.CommandRow command format) ++ plain (plains.CommandTag command))

-- the block has ended, and what was bound in it is closed
abbrev pub behind_block : ConversationState → ConversationState
behind_block old = without_portals (record old { block = statuses.Idle })

-- how the session stands behind it: BEGIN opens a block, COMMIT and ROLLBACK end it, and what was prepared or
-- bound is dropped where the command says so
abbrev pub behind_command : Command → ConversationState → ConversationState
behind_command commands.Begin old = record old { block = statuses.InTransaction }
behind_command commands.Commit old = behind_block old
behind_command commands.Rollback old = behind_block old
behind_command commands.DeallocateAll old = record old { statements = [] }
behind_command commands.DiscardAll old = without_portals (record old { statements = [] })
behind_command commands.CloseAll old = without_portals old
behind_command _ old = old

-- the word is the one at this place of the line
pub record IsWordAt (line : List ℕ) (place : ℕ) (word : List ℕ) : Type 0 where
  pub tokens : List Token
  pub are : AreTokens line tokens
  pub here : slice_get (words_of line tokens) place ≡ Some word

-- A command drops what was prepared by this name: it is answered so, whether something was.
pub data Drops (telling : Telling) (command : Command) (old : ConversationState) (name : List ℕ)
    : List Item → ConversationState → Bool → Type 0 where
  dropped : statement_named name old.statements ≢ None
      → Drops telling command old name (command_items telling command)
      (record old { statements = without_statement name old.statements }) true
  not_prepared : statement_named name old.statements ≡ None
      → Drops telling command old name (error problems.NoStatement) old false

-- A command of a line: it is answered with these items, the session stands so behind it, and it went well or
-- not.
pub data Obeys (telling : Telling) (line : List ℕ) (old : ConversationState)
    : Command → List Item → ConversationState → Bool → Type 0 where
  done : {command : Command} → is_plain_command old.block command ≡ true
      → Obeys telling line old command (command_items telling command) (behind_command command old)
      true
  -- COMMIT of a block that has failed ends it as ROLLBACK does
  rolled_back : old.block ≡ statuses.InFailedTransaction
      → Obeys telling line old commands.Commit (plain plains.RolledBack) (behind_block old) true
  unknown : Obeys telling line old commands.UnknownSetting (error problems.UnknownSetting) old false
  unserved : Obeys telling line old commands.Unserved (error problems.Unserved) old false
  deallocated : {place : ℕ} {name : List ℕ} {answer : List Item} {new : ConversationState} {well : Bool}
      → IsWordAt line place name → Drops telling (commands.Deallocate place) old name answer new well
      → Obeys telling line old (commands.Deallocate place) answer new well
  underscored : {name : List ℕ} {answer : List Item} {new : ConversationState} {well : Bool}
      → underscored_name line ≡ Some name
      → Drops telling commands.DeallocateUnderscored old (folded name) answer new well
      → Obeys telling line old commands.DeallocateUnderscored answer new well
  unnamed : underscored_name line ≡ None
      → Obeys telling line old commands.DeallocateUnderscored (error problems.NoStatement) old false
  unread : {place : ℕ}
      → Obeys telling line old (commands.Deallocate place) (error problems.NoMemory) old false

-- ---- what comes of a line
-- What a line that was asked is answered with; where it is at fault, `place` is the character that clients
-- show. Behind it the session stands so, and it went well or not.
pub data AnswersAsked (telling : Telling) (line : List ℕ) (place : Option ℕ)
    (old : ConversationState) : Asked → List Item → ConversationState → Bool → Type 0 where
  commanded : {command : Command} {answer : List Item} {new : ConversationState} {well : Bool}
      → Obeys telling line (noted None old) command answer new well
      → AnswersAsked telling line place old (askeds.Command command) answer new well
  faulty : {code : Code} {offset : ℕ} → AnswersAsked telling line place old
      (askeds.Faulty code offset) (plain (plains.Fault code offset place)) (noted None old) false
  unread : AnswersAsked telling line place old askeds.Unread (plain plains.Unread) (noted None old)
      false
  barred : {bar : Bar} → AnswersAsked telling line place old (askeds.Barred bar)
      (error (bar_problem bar)) (noted None old) false
  told : {tag : Tag} {reply : Reply} {columns : Option (List Column)}
      → AnswersAsked telling line place old (askeds.Told tag reply columns)
      (column_items telling reply columns
      ++ items.Answer (request_of telling tag) reply telling.portal ∷ [])
      (noted (told_moment reply) old) (not (is_error reply))
  withheld : AnswersAsked telling line place old askeds.Withheld (fatal_error problems.Journal)
      (record (ended (noted None old)) { unkept = true }) false

-- where a fault at this byte of a statement's line stands in the text that it is cut from, of which it
-- begins at this byte
pub data IsFaultPlace (text : List ℕ) (start : ℕ) (statement : List ℕ) : ℕ → Option ℕ → Type 0 where
  here : {offset byte : ℕ} → IsOrigin statement offset byte
      → IsFaultPlace text start statement offset (Some (character_at text (start + byte)))

-- the same of a line that was asked, if it is at fault
abbrev pub IsAskedPlace : List ℕ → ℕ → List ℕ → Asked → Option ℕ → Type 0
IsAskedPlace text start statement (askeds.Faulty code offset) place =
    IsFaultPlace text start statement offset place
IsAskedPlace text start statement _ place = place ≡ None
