use Rattle.std.proofs.Common.{subst}
use Rattle.desk_core.specs.Guarded.{CoreState}
use Rattle.desk_core.specs.Kept.{HasKept}
use Rattle.desk_core.proofs.object.Core.seen.Goals as goal

pub returns-clause-kept : goal.returns-clause-kept
returns-clause-kept g c =
    let K = g.K.Keeper in
    subst (λ (x : CoreState g.row.K.Denot). HasKept K x.origin x.world.journal x.keeper) c.self.view_is c.self.invariant.3
