-- A line that was passed over says no change that is allowed.
use Rattle.std.proofs.Common.{◌≡◌, ℕ, Bool, true, false, List, Ok, refl, sym, ap, subst, ◌∙◌}
use Rattle.base_core.specs.declared.name.User.{User}
use Rattle.base_core.specs.declared.value.Row.{Row}
use Rattle.reader_core.specs.declared.statement.Statement.{Statement}
use Rattle.reader_core.specs.declared.statement.Statement.TheVariants as statements
use Rattle.monitor_core.specs.Verdict.{Check, is_change, first_lack}
use Rattle.system_core.specs.Ticket.{TicketState}
use Rattle.script_core.proofs.Addressed.{asked_or_faulty, asked_once}
use Rattle.system_core.specs.Journal.{verdict_at}
use Rattle.system_core.specs.World.{World, entry}
use Rattle.system_core.specs.Judging.{checkpoint_checks, verdict_of}
use Rattle.system_core.specs.Step.{IsAnswer, IsExport, CarriesOut, Responds, Step}
use Rattle.system_core.specs.declared.machine.event.Entry.{Entry}
use Rattle.system_core.specs.declared.machine.event.Event.TheVariants as events
use Rattle.system_core.specs.declared.machine.event.Reply.{Reply}
use Rattle.system_core.specs.declared.machine.event.Reply.TheVariants as replies
use Rattle.system_core.proofs.Judged.{passed-first, no_more_checks}
use Rattle.load_core.specs.declared.fault.Undone.{Undone}
use Rattle.load_core.specs.declared.fault.Undone.TheVariants as reasons
use Rattle.load_core.specs.Loading.{SaysChange, IsUndone}
use Rattle.load_core.specs.Replaying.{is_out_of_memory}
use Rattle.system_core.specs.Replies.{is_done, is_memory, is_refused_memory}

-- ---- an allowed change is done, or memory ran out
no_rows : (w : World) (s : Statement) (rows : List Row) → is_change s ≡ true → IsAnswer w.journal s rows → ⊥
no_rows w (statements.Select list table filter) rows change h = cc
no_rows w _ rows change h = h

no_export : (w : World) (user : User) (s : Statement) (ticket : TicketState) → is_change s ≡ true → IsExport w user s ticket → ⊥
no_export w user (statements.Export number only) ticket change h = cc
no_export w user _ ticket change h = h

not_change : (s other : Statement) → s ≡ other → is_change s ≡ true → is_change other ≡ false → ⊥
not_change s other same change none =
    let both : true ≡ false = sym change ∙ ap is_change same ∙ none in cc

done_or_refused : (w new : World) (e : Entry) (reply : Reply) → is_change e.statement ≡ true → CarriesOut w e reply new → is_done reply ≡ false → is_refused_memory reply ≡ true
done_or_refused w new e (replies.Done at) change h undone = cc
done_or_refused w new e (replies.Rows at rows) change h undone = absurd (no_rows w e.statement rows change h.0)
done_or_refused w new e (replies.Listed at entries) change h undone = absurd (not_change e.statement statements.Checkpoints h.0 change refl)
done_or_refused w new e (replies.Begun number at) change h undone = absurd (not_change e.statement statements.Checkpoint h.0 change refl)
done_or_refused w new e (replies.Export ticket) change h undone = absurd (no_export w e.user e.statement ticket change h.0)
done_or_refused w new e (replies.Refused at lack) change h undone = ap is_memory h.1
done_or_refused w new e (replies.Denied at lack) change h undone = absurd h
done_or_refused w new e (replies.Described at columns) change h undone = absurd h
done_or_refused w new e replies.Idle change h undone = absurd h
done_or_refused w new e (replies.Stepped number left) change h undone = absurd h
done_or_refused w new e (replies.Finished number) change h undone = absurd h
done_or_refused w new e (replies.Abandoned number) change h undone = absurd h

module _ (w new : World) (e : Entry) (reply : Reply) (change : is_change e.statement ≡ true) (allowed : verdict_at w.limits w.journal e.user e.statement ≡ Ok tt) where
  stepped : Step w (events.Say 0 e.user e.statement) reply new → is_done reply ≡ false → is_refused_memory reply ≡ true
  stepped step undone =
      let passed : verdict_of w e.user e.statement ≡ Ok tt = passed-first (verdict_at w.limits w.journal e.user e.statement) (checkpoint_checks w e.user e.statement) allowed ∙ ap first_lack (no_more_checks w e.user e.statement change) in
      let By : Check → Type 0 = λ check. Responds w (entry 0 e.user e.statement) check reply new in
      done_or_refused w new (entry 0 e.user e.statement) reply change (subst By passed step) undone

no_more : (b : Bool) → b ≡ false → b ≡ true → ⊥
no_more b f t = let both : true ≡ false = sym t ∙ f in cc

-- **it says none, unless memory ran out**
pub not_entered : (most : ℕ) (w : World) (line : List ℕ) (why : Undone) → IsUndone most w line why → is_out_of_memory why ≡ false → (e : Entry) → SaysChange most w.limits w.journal line e → ⊥
not_entered most w line (reasons.Fault code offset) fault enough e s = asked_or_faulty most line e.user e.statement code offset s.says.asks fault
not_entered most w line reasons.Unread fault enough e s = cc
not_entered most w line reasons.NoChange (other, says, none) enough e s =
    no_more (is_change other.statement) none (ap is_change (asked_once most line other.user e.user other.statement e.statement says.asks s.says.asks).1 ∙ s.change)
not_entered most w line (reasons.Answer reply) (other, says, undone) enough e s =
    let same = asked_once most line other.user e.user other.statement e.statement says.asks s.says.asks in
    let By : User → Statement → Type 0 = λ u t. verdict_at w.limits w.journal u t ≡ Ok tt in
    let allowed : By other.user other.statement = subst (λ u. By u other.statement) (sym same.0) (subst (λ t. By e.user t) (sym same.1) s.allowed) in
    no_more (is_refused_memory reply) enough (stepped w w other reply undone.0 allowed undone.1 undone.2)
