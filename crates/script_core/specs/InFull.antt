-- Answers in full: those in which nothing is told of memory.
use Rattle.std.specs.Prelude.{ℕ, ◌≡◌, Bool, true, false, List, [], ◌++◌}
use Rattle.std.specs.List.{concat}
use Rattle.base_core.specs.declared.name.User.{User}
use Rattle.base_core.specs.declared.value.Moment.{Moment}
use Rattle.base_core.specs.declared.lack.Lack.TheVariants as lacks
use Rattle.lexer_core.specs.declared.fault.Code.{Code}
use Rattle.reader_core.specs.declared.statement.Statement.{Statement}
use Rattle.lines_core.specs.Lines.{IsWhole}
use Rattle.reply_core.specs.Texts.{reply_text, fault_text, unread_text, cut_text}
use Rattle.system_core.specs.World.{World}
use Rattle.system_core.specs.Step.{Step}
use Rattle.lexer_core.specs.declared.lexer.TheConstants.{MAX_LINE}
use Rattle.script_core.specs.Addressed.{Asks, IsFaulty}
use Rattle.system_core.specs.Replies.{is_refused}
use Rattle.system_core.specs.declared.machine.event.Event.TheVariants as events
use Rattle.system_core.specs.declared.machine.event.Reply.{Reply}
use Rattle.system_core.specs.declared.machine.event.Reply.TheVariants as replies

-- whether a reply says that memory was refused
abbrev pub tells_want : Reply → Bool
tells_want (replies.Refused at lacks.NoMemory) = true
tells_want reply = false

-- what stands behind the text of a reply: of an export all its records
abbrev pub records_of : Reply → List ℕ
records_of (replies.Export ticket) = concat ticket.to_come
records_of reply = []

-- from old, the line itself is answered in full by the text, and new is the next world: its fault is
-- told, or the whole reply to what it asks
pub data AnswersLineInFull (old : World) (line text : List ℕ) (new : World) : Type 0 where
  faulty : (code : Code) (offset : ℕ) → IsFaulty MAX_LINE line code offset
      → text ≡ fault_text code offset → new ≡ old → AnswersLineInFull old line text new
  said : (user : User) (asked : Statement) (reply : Reply) → Asks MAX_LINE line user asked
      → Step old (events.Say 0 user asked) reply new → tells_want reply ≡ false
      → text ≡ reply_text reply ++ records_of reply → AnswersLineInFull old line text new

-- from old, the line is answered in full by the text, and the step of the checkpointer after it, of which
-- nothing is told, leads to new
pub record AnswersInFull (old : World) (line text : List ℕ) (new : World) : Type 0 where
  pub mid : World
  pub reply : Reply
  pub answered : AnswersLineInFull old line text mid
  pub stepped : Step mid events.Step reply new
  pub silent : is_refused reply ≡ false

-- a line that tells that memory was refused: to a statement, to the reading of a line, to an export's
-- last records, or to the step of a checkpoint, which is given up
pub data IsMemoryLine : List ℕ → Type 0 where
  refused : (at : Moment) → IsMemoryLine (reply_text (replies.Refused at lacks.NoMemory))
  unread : IsMemoryLine unread_text
  cut : IsMemoryLine cut_text
  given_up : (number : ℕ) → IsMemoryLine (reply_text (replies.Abandoned number))

-- such a line stands in the text, as a line: at its beginning, or behind a line feed
pub record TellsOfMemory (text : List ℕ) : Type 0 where
  pub front : List ℕ
  pub line : List ℕ
  pub behind : List ℕ
  pub text_is : text ≡ front ++ (line ++ behind)
  pub begins : IsWhole front
  pub tells : IsMemoryLine line
