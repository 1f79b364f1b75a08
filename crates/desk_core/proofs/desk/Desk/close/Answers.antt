use Rattle.std.proofs.Common.{List, ap, sym, subst, ◌∙◌}
use Rattle.system_core.specs.World.{World, IsLawfulWorld}
use Rattle.desk_core.specs.Guarded.{CoreState}
use Rattle.system_core.specs.declared.machine.event.Entry.{Entry}
use Rattle.journal_core.specs.Keeping.{KeepsOrOwes}
use Rattle.desk_core.specs.Kept.{HasKept}
use Rattle.desk_core.proofs.Taking.{closed_ended, closed_kept}
use Rattle.desk_core.proofs.desk.Desk.close.Goals as goal

pub returns-in-Ok-clause-ok : goal.returns-in-Ok-clause-ok
returns-in-Ok-clause-ok g c =
    let K = g.K.Keeper in
    let out = sym c.into_inner.ensures in
    closed_ended K c.args.self c.args.passes.items c.in-Ok.core c.into_inner.result
    (sym (ap (λ (x : CoreState g.row.K.Denot). x.world) c.core.view_is) ∙ out)
    (subst (λ (w : World). IsLawfulWorld w) (c.deref.ensures ∙ out) c.journal.ensures.lawful)
    (rw c.self.view_is at c.in-Ok.ensures.ok)

pub returns-in-Ok-clause-kept : goal.returns-in-Ok-clause-kept
returns-in-Ok-clause-kept g c =
    let K = g.K.Keeper in
    let keeper = c.settle_owed.new.keeper in
    let Core = CoreState g.row.K.Denot in
    let had = subst (λ (x : Core). HasKept K x.origin x.world.journal x.keeper) c.core.view_is c.core.invariant.3 in
    let tried = subst (λ (x : Core). (start : g.row.K.Denot) (entries : List Entry) → KeepsOrOwes K start entries x.keeper → KeepsOrOwes K start entries keeper) c.core.view_is c.settle_owed.ensures in
    closed_kept K c.args.self c.args.passes.items c.in-Ok.core c.into_inner.result keeper
    (sym (ap (λ (x : Core). x.world) c.core.view_is) ∙ sym c.into_inner.ensures) had tried (rw c.self.view_is at c.in-Ok.ensures.ok)
