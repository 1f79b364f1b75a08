use Rattle.std.proofs.Common.{sym, subst}
use Rattle.desk_core.specs.Guarded.{CoreState}
use Rattle.desk_core.specs.Kept.{HasKept}
use Rattle.desk_core.proofs.object.Core.tended.Goals as goal

pub run-is_run-requires : goal.run-is_run-requires
run-is_run-requires g c =
    let May : CoreState g.row.K.Denot → Type 0 = λ s. HasKept g.K.Keeper s.origin s.world.journal s.keeper → g.K.Keeper.may_run s.keeper c.args.errand in
    subst May (sym c.self.view_is) c.requires c.self.invariant.3

pub invariant_of-self : goal.invariant_of-self
invariant_of-self g c =
    let i = c.self.invariant in
    let at = c.self.inside in
    (i.0, i.1, i.2, subst (HasKept g.K.Keeper at.basis at.system.value.journal) (sym c.run-is_run.ensures) i.3)
