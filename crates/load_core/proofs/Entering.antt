-- What a change that a line says comes to.
use Rattle.std.proofs.Common.{◌≡◌, ℕ, Bool, true, false, Option, Some, None, Ok, Err, List, refl, sym, ap, subst, ◌∙◌}
use Rattle.std.specs.Prelude.{if◌then◌else◌}
use Rattle.base_core.specs.Lacks.{is_denial}
use Rattle.base_core.specs.declared.lack.Lack.{Lack}
use Rattle.base_core.specs.declared.value.Moment.{Moment}
use Rattle.monitor_core.specs.Verdict.{Check, is_change}
use Rattle.system_core.specs.Journal.{verdict_at}
use Rattle.system_core.specs.World.{World, entry}
use Rattle.system_core.specs.Judging.{checkpoint_checks, verdict_of, judged_at}
use Rattle.system_core.specs.Step.{Responds, Step}
use Rattle.system_core.specs.declared.machine.event.Entry.{Entry}
use Rattle.system_core.specs.declared.machine.event.Event.TheVariants as events
use Rattle.system_core.specs.declared.machine.event.Reply.{Reply}
use Rattle.system_core.specs.declared.machine.event.Reply.TheVariants as replies
use Rattle.system_core.proofs.Judged.{failed-first}
use Rattle.load_core.specs.declared.fault.Undone.{Undone}
use Rattle.load_core.specs.declared.fault.Undone.TheVariants as reasons
use Rattle.load_core.specs.Loading.{SaysEntry, IsUndoneEntry}
use Rattle.system_core.specs.Replies.{is_done}
use Rattle.load_core.specs.Loader.{EntersEntry, EntersUpTo}

-- a lack is answered by no Done
lack_not_done : (b : Bool) (at : Moment) (lack : Lack) → is_done (if b then replies.Denied at lack else replies.Refused at lack) ≡ false
lack_not_done true at lack = refl
lack_not_done false at lack = refl

-- a change that is not allowed is answered so
module _ (w : World) (e : Entry) (reply : Reply) (denied : verdict_at w.limits w.journal e.user e.statement ≡ Ok tt → ⊥) (responds : Responds w e (verdict_of w e.user e.statement) reply w) where
  by_check : (check : Check) → verdict_at w.limits w.journal e.user e.statement ≡ check → Step w (events.Say 0 e.user e.statement) reply w × (is_done reply ≡ false)
  by_check (Ok u) is = absurd (denied is)
  by_check (Err lack) is =
      let failed : verdict_of w e.user e.statement ≡ Err lack = failed-first (verdict_at w.limits w.journal e.user e.statement) (checkpoint_checks w e.user e.statement) lack is in
      let By : Check → Type 0 = λ check. Responds w e check reply w in
      let Said : Check → Type 0 = λ check. Responds w (entry 0 e.user e.statement) check reply w in
      let said : Responds w e (Err lack) reply w = subst By failed responds in
      (subst Said (sym failed) said, ap is_done said.0 ∙ lack_not_done (is_denial lack) (judged_at w e.statement lack) lack)

  pub refused : is_change e.statement ≡ true → IsUndoneEntry w e (reasons.Answer reply)
  refused change = let undone = by_check (verdict_at w.limits w.journal e.user e.statement) refl in (change, undone.0, undone.1)

-- what an entry comes to is what the line comes to that says it
pub line_enters : (most : ℕ) (old new : World) (line : List ℕ) (e : Entry) → SaysEntry most line e → (stop : Option Undone) → EntersEntry old e stop new → EntersUpTo most old line stop new
line_enters most old new line e says None p = (e, record { says = says; change = p.0; allowed = p.1 }, p.2)
line_enters most old new line e says (Some (reasons.Fault code offset)) p = absurd p.0
line_enters most old new line e says (Some reasons.Unread) p = absurd p.0
line_enters most old new line e says (Some reasons.NoChange) p = ((e, says, p.0), p.1)
line_enters most old new line e says (Some (reasons.Answer reply)) p = ((e, says, p.0), p.1)
