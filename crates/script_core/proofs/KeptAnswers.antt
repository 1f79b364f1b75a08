-- What is written for a line is an answer to it, and its change is kept.
use Rattle.std.proofs.Common.{◌≡◌, ℕ, Bool, true, false, List, ◌++◌, Option, Some, None, Ok, refl, sym, ap, ◌∙◌, subst, append-nil}
use Rattle.base_core.specs.declared.name.User.{User}
use Rattle.reader_core.specs.declared.statement.Statement.{Statement}
use Rattle.monitor_core.specs.Verdict.{is_change}
use Rattle.system_core.specs.Journal.{verdict_at}
use Rattle.system_core.specs.World.{World, entry}
use Rattle.system_core.specs.Entering.{entered}
use Rattle.system_core.specs.declared.machine.event.Entry.{Entry}
use Rattle.system_core.specs.declared.machine.event.Event.TheVariants as events
use Rattle.system_core.specs.declared.machine.event.Reply.{Reply}
use Rattle.system_core.proofs.Entered.{step_enters}
use Rattle.journal_core.specs.Keeping.{KeepsAll}
use Rattle.journal_core.specs.Recorder.{WithKeeper, with_keeper, event_of_entry, KeepsEntered, next, kept, StepsKept}
use Rattle.journal_core.specs.declared.keeper.Keeper.{Ghosts}
use Rattle.journal_core.proofs.Entering.{never-both, unchanged-entered, entered-told, entered-owed}
use Rattle.lexer_core.specs.declared.lexer.TheConstants.{MAX_LINE}
use Rattle.script_core.specs.Addressed.{Asks}
use Rattle.script_core.specs.Script.{said}
use Rattle.script_core.specs.Keeping.{AnswersKept, answered, withheld}
use Rattle.script_core.specs.Replying.{ComesTo, Advanced, TellsThen, TellsAsked, TellsActed, TellsKept}
use Rattle.script_core.specs.declared.scripts.answer.Said.{Said}
use Rattle.script_core.specs.declared.scripts.answer.Said.TheVariants as says
use Rattle.script_core.proofs.Answering.{tells-some, then-answers}
use Rattle.script_core.proofs.KeptLemmas.{KeepsNew-none}

-- ---- steps that enter nothing
advanced-journal : (old new : World) (advanced : Option Reply) → Advanced old advanced new → new.journal ≡ old.journal
advanced-journal old new None (reply, step, silent) = (step_enters old new events.Step reply step).journal ∙ append-nil old.journal
advanced-journal old new (Some reply) (refusal, mid, step, refused, up) =
    (step_enters mid new events.Abandon reply up).journal ∙ append-nil mid.journal ∙ ((step_enters old mid events.Step refusal step).journal ∙ append-nil old.journal)

-- the checkpointer's steps leave the journal
pub then-journal : (what : Said) (old new : World) (text : List ℕ) → TellsThen what old new text → new.journal ≡ old.journal
then-journal what old new text (advanced, goes, tells) = advanced-journal old new advanced goes

module _ {K : Type 0} (rules : Ghosts K) where
  -- ---- what is told of what was asked
  pub any-kept : (old new : World) (k : K) (e : Entry) → rules.owing k ≡ false → ((verdict_at old.limits old.journal e.user e.statement ≡ Ok tt) × (is_change e.statement ≡ true) → ⊥)
      → (text : List ℕ) → TellsAsked e old new text → TellsKept rules e (with_keeper old k) (with_keeper new k) text
  any-kept old new k e f denied text (reply, mid, step, follow) = record {
    reply = reply;
    told = true;
    mid = with_keeper mid k;
    acted = record {
      step = step;
      keeping = subst (λ (es : List Entry). KeepsEntered rules k es true k) (sym (unchanged-entered old mid e reply denied step)) (next (kept f f refl));
      withheld = λ untold. never-both true refl untold;
    };
    tells = (follow, refl);
  }

  -- a change whose reply may be told
  pub change-told : (old mid new : World) (k k' : K) (e : Entry) (reply : Reply) → StepsKept rules (with_keeper old k) (event_of_entry e) reply true (with_keeper mid k')
      → (text : List ℕ) → TellsThen (says.Answer reply) mid new text → TellsKept rules e (with_keeper old k) (with_keeper new k') text
  change-told old mid new k k' e reply acted text follow = record { reply = reply; told = true; mid = with_keeper mid k'; acted = acted; tells = (follow, refl) }

  -- ---- what is written for a line
  acted-answers : (old mid new : WithKeeper K) (line : List ℕ) (user : User) (asked : Statement) (reply : Reply) (told : Bool) → rules.owing old.keeper ≡ false → Asks MAX_LINE line user asked
      → StepsKept rules old (events.Say 0 user asked) reply told mid → (text : List ℕ) → TellsActed told reply mid new text → AnswersKept rules old line text new
  acted-answers old mid new line user asked reply true f asks acted text (follow, same) =
      let k = entered-told rules old.keeper mid.keeper _ true f acted.keeping refl in
      answered f (ap rules.owing same ∙ k.0) (then-answers old.world mid.world new.world line (says.Answer reply) (user, asked, asks, acted.step) text follow) (record {
        entries = entered (events.Say 0 user asked) reply;
        journal = then-journal (says.Answer reply) mid.world new.world text follow ∙ (step_enters old.world mid.world (events.Say 0 user asked) reply acted.step).journal;
        kept = subst (λ (x : K). KeepsAll rules.keeps old.keeper (entered (events.Say 0 user asked) reply) x) (sym same) k.1;
      })
  acted-answers old mid new line user asked reply false f asks acted text (none, same) =
      let owed = entered-owed rules old.keeper mid.keeper _ false f acted.keeping refl in
      let some = tells-some reply in
      let journal = (step_enters old.world mid.world (events.Say 0 user asked) reply acted.step).journal in
      subst (λ (p : List ℕ × WithKeeper K). AnswersKept rules old line p.0 p.1) (λ i. (sym none i, sym same i))
      (withheld {text = some.0} f owed.2 (said user asked reply asks acted.step some.1)
      (record { entry = owed.0; journal = journal ∙ ap (λ (es : List Entry). old.world.journal ++ es) owed.1; owes = owed.3 }))

  pub kept-answers : (old new : WithKeeper K) (line : List ℕ) (user : User) (asked : Statement) → rules.owing old.keeper ≡ false → Asks MAX_LINE line user asked
      → (text : List ℕ) → TellsKept rules (entry 0 user asked) old new text → AnswersKept rules old line text new
  kept-answers old new line user asked f asks text t = acted-answers old t.mid new line user asked t.reply t.told f asks t.acted text t.tells

  -- what enters nothing
  pub then-kept : (old new : World) (k : K) (line : List ℕ) (what : Said) → rules.owing k ≡ false → ComesTo old line what old
      → (text : List ℕ) → TellsThen what old new text → AnswersKept rules (with_keeper old k) line text (with_keeper new k)
  then-kept old new k line what f comes text follow =
      answered f f (then-answers old old new line what comes text follow) (KeepsNew-none rules (with_keeper old k) (with_keeper new k) (then-journal what old new text follow) refl)
