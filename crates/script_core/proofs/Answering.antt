-- What is written for a line is an answer to it.
use Rattle.std.proofs.Common.{◌≡◌, ℕ, true, false, not, List, [], ◌++◌, Option, Some, None, is_some, refl, sym, subst}
use Rattle.reply_core.specs.Texts.{reply_text}
use Rattle.reply_core.specs.Telling.{TellsReply}
use Rattle.base_core.proofs.Fronts.{Both}
use Rattle.reply_core.proofs.WritingLemmas.{some_records}
use Rattle.std.proofs.lemmas.List.{append-nil}
use Rattle.system_core.specs.World.{World, ActiveCheckpoint}
use Rattle.system_core.specs.declared.machine.event.Reply.{Reply}
use Rattle.system_core.specs.Step.{Advances, Step}
use Rattle.journal_core.specs.Recorder.{event_of_entry}
use Rattle.system_core.specs.declared.machine.event.Entry.{Entry}
use Rattle.system_core.specs.declared.machine.event.Reply.TheVariants as replies
use Rattle.system_core.specs.declared.machine.event.Event.TheVariants as events
use Rattle.lexer_core.specs.declared.fault.ReadFault.TheVariants as faults
use Rattle.script_core.specs.Script.{Answers, AnswersLine, faulty, said, unread, Follows, stepped, gave_up}
use Rattle.system_core.specs.Replies.{is_refused}
use Rattle.script_core.specs.Replying.{ComesTo, TellsSaid, Advanced, TellsAdvanced, TellsBoth, TellsThen, TellsAsked}
use Rattle.script_core.specs.declared.scripts.answer.Said.{Said}
use Rattle.script_core.specs.declared.scripts.answer.Said.TheVariants as says

pub said-answers : (old new : World) (line : List ℕ) (what : Said) (text : List ℕ) → ComesTo old line what new → TellsSaid what text → AnswersLine old line text new
said-answers old new line (says.Fault (faults.At code offset)) text (h, same) e = subst (λ w. AnswersLine old line text w) (sym same) (subst (λ t. AnswersLine old line t old) (sym e) (faulty h))
said-answers old new line (says.Fault faults.NoMemory) text (a, same) e = subst (λ w. AnswersLine old line text w) (sym same) (subst (λ t. AnswersLine old line t old) (sym e) (unread a))
said-answers old new line (says.Answer reply) text (user, asked, a, step) tells = said user asked reply a step tells

pub advanced-follows : (old new : World) (what : Option Reply) (text : List ℕ) → Advanced old what new → TellsAdvanced what text → Follows old text new
advanced-follows old new None text (reply, step, silent) e = subst (λ t. Follows old t new) (sym e) (stepped reply step silent)
advanced-follows old new (Some reply) text (refusal, mid, step, refused, up) tells = gave_up mid refusal reply step refused up tells

-- something may be written of each reply
pub tells-some : (reply : Reply) → (text : List ℕ) × TellsReply reply text
tells-some reply = let more = some_records reply in (reply_text reply ++ more.0, (more.0, more.1, refl))

-- **what is written of both answers the line**
pub both-answer : (old mid new : World) (line : List ℕ) (what : Said) (advanced : Option Reply) → ComesTo old line what mid → Advanced mid advanced new → (text : List ℕ) → TellsBoth what advanced text → Answers old line text new
both-answer old mid new line what advanced hears goes text b = record {
  first = b.0;
  mid = mid;
  second = b.1;
  answered = said-answers old mid line what b.0 hears b.2;
  followed = advanced-follows mid new advanced b.1 goes b.3;
  text_is = b.4;
}

-- the same with what a step of the checkpointer comes to
pub then-answers : (old mid new : World) (line : List ℕ) (what : Said) → ComesTo old line what mid → (text : List ℕ) → TellsThen what mid new text → Answers old line text new
then-answers old mid new line what hears text (advanced, goes, tells) = both-answer old mid new line what advanced hears goes text tells

-- nothing is to be said of the step
pub said-alone : (what : Said) (old new : World) (reply : Reply) → Step old events.Step reply new → is_refused reply ≡ false → (text : List ℕ) → TellsSaid what text → TellsThen what old new text
said-alone what old new reply step silent text tells = (None, (reply, step, silent), (text, [], tells, refl, sym (append-nil text)))

-- the checkpoint is given up
pub said-then : (what : Said) (old mid new : World) (refusal reply : Reply) → Step old events.Step refusal mid → is_refused refusal ≡ true → Step mid events.Abandon reply new → (text : List ℕ) → Both (TellsSaid what) (TellsReply reply) text → TellsThen what old new text
said-then what old mid new refusal reply step refused up text both = (Some reply, (refusal, mid, step, refused, up), both)

idle-with : (w : World) (active : Option ActiveCheckpoint) → not (is_some active) ≡ true → Advances w active replies.Idle w
idle-with w None idle = (refl, refl)
idle-with w (Some a) idle = cc

-- a step that does nothing
pub said-idle : (w : World) (what : Said) → not (is_some w.active) ≡ true → (text : List ℕ) → TellsSaid what text → TellsThen what w w text
said-idle w what idle text tells = said-alone what w w replies.Idle (idle-with w w.active idle) refl text tells

-- what was asked, and what is told of it
pub asked-then : (old mid new : World) (e : Entry) (reply : Reply) → Step old (event_of_entry e) reply mid → (text : List ℕ) → TellsThen (says.Answer reply) mid new text → TellsAsked e old new text
asked-then old mid new e reply step text tells = (reply, mid, step, tells)
