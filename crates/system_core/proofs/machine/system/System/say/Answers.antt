use Rattle.std.proofs.Common.{◌≡◌, true, Ok, Some, sym, ap, subst, ◌∙◌}
use Rattle.std.specs.Result.{result_ok}
use Rattle.base_core.specs.declared.value.Moment.{Moment}
use Rattle.monitor_core.specs.declared.allowed.Allowed.{Allowed}
use Rattle.monitor_core.specs.Verdict.{Check, is_change, allowed_by}
use Rattle.monitor_core.proofs.Allowing.{change-some, passed-some}
use Rattle.system_core.specs.Journal.{verdict_at}
use Rattle.system_core.specs.World.{World, moment_of}
use Rattle.system_core.specs.declared.machine.event.Entry.{Entry}
use Rattle.system_core.specs.declared.machine.event.Reply.{Reply}
use Rattle.system_core.specs.Judging.{checkpoint_checks}
use Rattle.system_core.specs.Step.{change_reply, CarriesOut, Responds}
use Rattle.system_core.proofs.Judged.{passed-first, change-responds}
use Rattle.system_core.proofs.machine.system.System.say.Goals as goal

-- what is allowed at one world passes at the same
passes : (inside now : World) (e : Entry) (a : Allowed) → inside ≡ now → result_ok (allowed_by (verdict_at inside.limits inside.journal e.user e.statement) e.statement) ≡ Some a → verdict_at now.limits now.journal e.user e.statement ≡ Ok tt
passes inside now e a same found =
    subst (λ (w : World). verdict_at w.limits w.journal e.user e.statement ≡ Ok tt) same (passed-some _ e.statement a found)

pub returns-then-allowed : goal.returns-then-allowed
returns-then-allowed c =
    let here = passes _ _ c.args.entry c.in-Some.allowed c.self.view_is (sym c.allowed.ensures ∙ c.in-Some.is) in
    let change : is_change c.args.entry.statement ≡ true = sym (change-some _ c.args.entry.statement c.in-Some.allowed (sym c.allowed.ensures ∙ c.in-Some.is)) ∙ c.if-allowed.true in
    let told : c.to_change.result ≡ change_reply (moment_of c.args.self.now) c.change.result = c.to_change.ensures ∙ ap (λ (m : Moment). change_reply m c.change.result) c.moment-at.ensures in
    let By : Reply → Type 0 = λ reply. CarriesOut c.args.self.now c.args.entry reply c.change.new.self in
    change-responds c.args.self.now c.change.new.self c.args.entry c.to_change.result here change (subst By (sym told) c.change.ensures)

pub returns-else-allowed : goal.returns-else-allowed
returns-else-allowed c =
    let here = passes _ _ c.args.entry c.in-Some.allowed c.self.view_is (sym c.allowed.ensures ∙ c.in-Some.is) in
    let By : Check → Type 0 = λ check. Responds c.args.self.now c.args.entry check c.look_at.result c.look_at.new.self in
    subst By (sym (passed-first (verdict_at c.args.self.now.limits c.args.self.now.journal c.args.entry.user c.args.entry.statement) (checkpoint_checks c.args.self.now c.args.entry.user c.args.entry.statement) here)) c.look_at.ensures

pub change-requires-clause-allowed : goal.change-requires-clause-allowed
change-requires-clause-allowed c = passes _ _ c.args.entry c.in-Some.allowed c.self.view_is (sym c.allowed.ensures ∙ c.in-Some.is)

pub look_at-requires-clause-allowed : goal.look_at-requires-clause-allowed
look_at-requires-clause-allowed c = passes _ _ c.args.entry c.in-Some.allowed c.self.view_is (sym c.allowed.ensures ∙ c.in-Some.is)
