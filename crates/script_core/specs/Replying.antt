-- What is said of a line before it is written, and how that comes of the line.
use Rattle.std.specs.Prelude.{ℕ, ◌≡◌, Bool, true, false, List, [], ◌++◌, Option, Some, None}
use Rattle.base_core.specs.declared.name.User.{User}
use Rattle.reader_core.specs.declared.statement.Statement.{Statement}
use Rattle.reply_core.specs.Texts.{fault_text, unread_text}
use Rattle.reply_core.specs.Telling.{TellsReply}
use Rattle.system_core.specs.World.{World}
use Rattle.system_core.specs.Step.{Step}
use Rattle.lexer_core.specs.declared.lexer.TheConstants.{MAX_LINE}
use Rattle.lexer_core.specs.declared.fault.ReadFault.TheVariants as faults
use Rattle.script_core.specs.Addressed.{Asks, IsUnreadFor}
use Rattle.system_core.specs.Replies.{is_refused}
use Rattle.journal_core.specs.Recorder.{WithKeeper, event_of_entry, StepsKept}
use Rattle.journal_core.specs.declared.keeper.Keeper.{Ghosts}
use Rattle.system_core.specs.declared.machine.event.Event.TheVariants as events
use Rattle.system_core.specs.declared.machine.event.Entry.{Entry}
use Rattle.system_core.specs.declared.machine.event.Reply.{Reply}
use Rattle.script_core.specs.declared.scripts.answer.Said.{Said}
use Rattle.script_core.specs.declared.scripts.answer.Said.TheVariants as says

-- what a line comes to
abbrev pub ComesTo : World → List ℕ → Said → World → Type 0
ComesTo old line (says.Fault fault) new = IsUnreadFor MAX_LINE line fault × (new ≡ old)
ComesTo old line (says.Answer reply) new =
    (user : User)
    × (asked : Statement)
    × Asks MAX_LINE line user asked
    × Step old (events.Say 0 user asked) reply new

-- what may be written of it
abbrev pub TellsSaid : Said → List ℕ → Type 0
TellsSaid (says.Fault (faults.At code offset)) text = text ≡ fault_text code offset
TellsSaid (says.Fault faults.NoMemory) text = text ≡ unread_text
TellsSaid (says.Answer reply) text = TellsReply reply text

-- what a step of the checkpointer comes to: nothing to say, or that a checkpoint is given up
abbrev pub Advanced : World → Option Reply → World → Type 0
Advanced old None new =
    (reply : Reply) × Step old events.Step reply new × (is_refused reply ≡ false)
Advanced old (Some reply) new =
    (refusal : Reply)
    × (mid : World)
    × Step old events.Step refusal mid
    × (is_refused refusal ≡ true)
    × Step mid events.Abandon reply new

-- what may be written of it
abbrev pub TellsAdvanced : Option Reply → List ℕ → Type 0
TellsAdvanced None text = text ≡ []
TellsAdvanced (Some reply) text = TellsReply reply text

-- what may be written of both
abbrev pub TellsBoth : Said → Option Reply → List ℕ → Type 0
TellsBoth said advanced text =
    (first : List ℕ)
    × (second : List ℕ)
    × TellsSaid said first
    × TellsAdvanced advanced second
    × (text ≡ first ++ second)

-- From old, this text may be written of what was said and of the step after it, and new is the next
-- world.
abbrev pub TellsThen : Said → World → World → List ℕ → Type 0
TellsThen said old new text =
    (advanced : Option Reply) × Advanced old advanced new × TellsBoth said advanced text

-- From old, this text may be written of what a user says and of the step after it, and new is the next
-- world.
abbrev pub TellsAsked : Entry → World → World → List ℕ → Type 0
TellsAsked e old new text =
    (reply : Reply)
    × (mid : World)
    × Step old (event_of_entry e) reply mid
    × TellsThen (says.Answer reply) mid new text

-- What may be written of a reply: where it may be told, that, and what the step after it comes to; else
-- nothing, and no step follows.
abbrev pub TellsActed : {K : Type 0} → Bool → Reply → WithKeeper K → WithKeeper K → List ℕ → Type 0
TellsActed true reply mid new text =
    TellsThen (says.Answer reply) mid.world new.world text × (new.keeper ≡ mid.keeper)
TellsActed false reply mid new text = (text ≡ []) × (new ≡ mid)

-- The same as TellsAsked with a keeper, by which the reply may be told.
pub record TellsKept {K : Type 0} (rules : Ghosts K)
    (e : Entry) (old new : WithKeeper K) (text : List ℕ) : Type 0 where
  pub reply : Reply
  pub told : Bool
  pub mid : WithKeeper K
  pub acted : StepsKept rules old (event_of_entry e) reply told mid
  pub tells : TellsActed told reply mid new text
