use Rattle.std.proofs.Common.{IfOk, subst, sym, ◌∙◌}
use Rattle.desk_core.specs.Guarded.{origin_at}
use Rattle.desk_core.specs.Kept.{HasKept}
use Rattle.sysr.proofs.listening.served.Goals as goal
use Rattle.sysr.proofs.listening.served.Goals.{in-Some, in-None}

pub returns-in-Ok-clause-kept : goal.returns-in-Ok-clause-kept
returns-in-Ok-clause-kept g c = elim c.match-syncer.branch [
  | in-Some w ↦ subst (λ r. IfOk r (λ b. HasKept g.K.Keeper (origin_at c.args.system c.args.keeper) b.system.journal b.keeper)) (sym w.served-is ∙ c.in-Ok.is) w.serve_on-served.ensures.kept
  | in-None w ↦ subst (λ r. IfOk r (λ b. HasKept g.K.Keeper (origin_at c.args.system c.args.keeper) b.system.journal b.keeper)) (sym w.served-is ∙ c.in-Ok.is) w.serve_on-served-in-None.ensures.kept
]
