use Rattle.std.proofs.Common.{sym, subst}
use Rattle.desk_core.specs.Guarded.{origin_of}
use Rattle.desk_core.specs.Kept.{HasKept}
use Rattle.desk_core.proofs.Taking.{look_kept}
use Rattle.desk_core.proofs.desk.Desk.look.Goals as goal

pub returns-in-Ok-clause-kept : goal.returns-in-Ok-clause-kept
returns-in-Ok-clause-kept g c =
    let K = g.K.Keeper in
    let desk = c.args.self.now in
    let seen = c.turn.new.pass.seen in
    subst (λ (k : g.row.K.Denot). HasKept K (origin_of desk) seen k) (sym c.into_look.ensures.keeper)
    (look_kept K desk c.in-Ok.answer c.args.pass.now c.turn.new.pass (rw c.self.view_is at c.in-Ok.ensures.done))
