use Rattle.std.proofs.Common.{◌≡◌, sym, ap, ◌∙◌, subst}
use Rattle.turnstile.specs.Logs.{StartsWith}
use Rattle.desk_core.specs.Guarded.{DeskNote, DeskPass}
use Rattle.server_core.proofs.Fronts.{synced_may_tell}
use Rattle.server_core.proofs.syncing.Syncing.sync_seen.Goals as goal

pub invariant_of-result-2 : goal.invariant_of-result-2
invariant_of-result-2 g c =
    let seen : c.note-seen.result.seen ≡ c.args.pass.now.seen = ap (λ (n : DeskNote g.row.K.Denot). n.seen) c.note-seen.ensures.told in (
      ∣ synced_may_tell g.K.Keeper g.I.Syncer.Syncs.durable g.I.Syncer.Syncs.asks g.I.Instance.desk c.args.desk.now c.look.new.pass.seen c.note-seen.result.seen c.requires.desk
          (subst (StartsWith c.look.new.pass.seen) (ap (λ (p : DeskPass g.row.K.Denot). p.seen) c.note-seen.ensures.same ∙ sym seen) c.look.ensures.seen) c.in_ok-reach.ensures.synced ∣₁,
      tt,
    )
