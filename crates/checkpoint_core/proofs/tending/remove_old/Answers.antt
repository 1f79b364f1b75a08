use Rattle.std.proofs.Common.{subst, sym}
use Rattle.session_core.specs.Gains.{Watches}
use Rattle.session_core.proofs.Growing.{Watches-trans}
use Rattle.checkpoint_core.proofs.tending.remove_old.Goals.{then-len-kept, else-len-kept}
use Rattle.checkpoint_core.proofs.tending.remove_old.Goals as goal

pub returns : goal.returns
returns g c =
    let first : Watches c.args.pass.now c.remove_dumps.new.pass = record { same = c.remove_dumps.ensures.same; seen = c.remove_dumps.ensures.seen; mine_is = c.remove_dumps.ensures.made } in
    elim c.if-len-kept.branch [
      | then-len-kept w ↦ subst (Watches c.args.pass.now) (sym w.pass-is)
          (Watches-trans c.args.pass.now c.remove_dumps.new.pass w.remove_pieces.new.pass first (record { same = w.remove_pieces.ensures.same; seen = w.remove_pieces.ensures.seen; mine_is = w.remove_pieces.ensures.made }))
      | else-len-kept w ↦ subst (Watches c.args.pass.now) (sym w.pass-is) first
    ]
