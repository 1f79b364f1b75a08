-- What may be written for a script's line and for the step of the checkpointer after it.
use Rattle.std.specs.Prelude.{◌≡◌, ◌++◌, ℕ, [], Bool, true, false, List, Result, Ok, Err}
use Rattle.base_core.specs.Full.{IsFull}
use Rattle.base_core.specs.declared.name.User.{User}
use Rattle.base_core.specs.declared.limits.Limits.{Limits}
use Rattle.lexer_core.specs.declared.fault.Code.{Code}
use Rattle.lexer_core.specs.declared.lexer.TheConstants.{MAX_LINE}
use Rattle.reader_core.specs.declared.statement.Statement.{Statement}
use Rattle.lines_core.specs.Serving.{Ends, Traffic}
use Rattle.reply_core.specs.Texts.{fault_text, unread_text}
use Rattle.reply_core.specs.Telling.{TellsReply}
use Rattle.system_core.specs.World.{World, opening}
use Rattle.system_core.specs.Replies.{is_refused}
use Rattle.system_core.specs.Step.{Step}
use Rattle.system_core.specs.declared.machine.event.Event.TheVariants as events
use Rattle.system_core.specs.declared.machine.event.Reply.{Reply}
use Rattle.lines_core.specs.declared.serving.SessionFault.{SessionFault}
use Rattle.script_core.specs.Addressed.{Asks, IsFaulty, IsAddressed}

-- From old, this text may be written for the line itself, and new is the next world. The last is out
-- of memory, where the line says who speaks, so that what he asks had to be read.
pub data AnswersLine (old : World) (line : List ℕ) : List ℕ → World → Type 0 where
  faulty : {code : Code} {offset : ℕ}
      → IsFaulty MAX_LINE line code offset
      → AnswersLine old line (fault_text code offset) old
  said : {text : List ℕ} {new : World} (user : User) (asked : Statement) (reply : Reply)
      → Asks MAX_LINE line user asked
      → Step old (events.Say 0 user asked) reply new
      → TellsReply reply text
      → AnswersLine old line text new
  unread : IsAddressed MAX_LINE line → AnswersLine old line unread_text old

-- From old, this text may be written for the step of the checkpointer after a line, and new is the next
-- world: nothing; or, where the step found no memory, that the checkpoint is given up.
pub data Follows (old : World) : List ℕ → World → Type 0 where
  stepped : {new : World} (reply : Reply)
      → Step old events.Step reply new
      → is_refused reply ≡ false
      → Follows old [] new
  gave_up : {text : List ℕ} {new : World} (mid : World) (refusal reply : Reply)
      → Step old events.Step refusal mid
      → is_refused refusal ≡ true
      → Step mid events.Abandon reply new
      → TellsReply reply text
      → Follows old text new

-- From old, this text may be written for the line and the step after it, and new is the next world.
pub record Answers (old : World) (line text : List ℕ) (new : World) : Type 0 where
  pub first : List ℕ
  pub mid : World
  pub second : List ℕ
  pub answered : AnswersLine old line first mid
  pub followed : Follows mid second new
  pub text_is : text ≡ first ++ second

abbrev pub never : World → Bool
never w = false

-- how a script ends, from the opening world with full limits
abbrev pub EndsScript : ℕ → Result World SessionFault → Traffic → Type 0
EndsScript chunk (Ok new) traffic =
    (limits : Limits)
    × IsFull limits
    × Ends Answers never (Ok tt) (opening chunk limits) new traffic
EndsScript chunk (Err fault) traffic =
    (limits : Limits)
    × (new : World)
    × IsFull limits
    × Ends Answers never (Err fault) (opening chunk limits) new traffic
