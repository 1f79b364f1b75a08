use Rattle.std.proofs.Common.{◌≡◌, sym, ap, ◌∙◌, subst, List}
use Rattle.std.proofs.Math.Logic.{∥∥₁_map}
use Rattle.system_core.specs.declared.machine.event.Entry.{Entry}
use Rattle.desk_core.specs.Guarded.{DeskNote, origin_of}
use Rattle.server_core.specs.Durable.{HasSynced}
use Rattle.server_core.proofs.Fronts.{met_durable, synced_later}
use Rattle.server_core.proofs.syncing.Progress.meet.Goals as goal

pub invariant_of-result : goal.invariant_of-result
invariant_of-result g c =
    let durable = g.I.Syncer.Syncs.durable in
    let seen : c.note.result.seen ≡ c.meet.new.pass.seen = ap (λ (n : DeskNote g.row.K.Denot). n.seen) c.note.ensures.told in
    record {
      own = ap (λ (n : DeskNote g.row.K.Denot). n.lock) c.note.ensures.told ∙ (c.meet.ensures.same.0 ∙ (c.requires.pass ∙ sym c.requires.desk));
      synced = ∥∥₁_map c.args.self.synced (λ h desk is.
          subst (λ (s : List Entry). HasSynced g.K.Keeper durable (origin_of desk) s c.args.self.count) (sym seen)
          (synced_later g.K.Keeper durable (origin_of desk) c.args.self.seen.seen c.meet.new.pass.seen c.args.self.count c.meet.ensures.seen.1 (h desk is)));
    }

pub returns-clause-synced : goal.returns-clause-synced
returns-clause-synced g c short =
    ∥∥₁_map c.args.self.synced (λ h. met_durable g.K.Keeper g.I.Syncer.Syncs.durable (origin_of c.args.desk.now) c.args.pass.now.seen c.args.self.seen.seen c.meet.new.pass.seen c.args.self.count (h c.args.desk.now c.requires.desk) c.meet.ensures.seen.0 c.meet.ensures.seen.1 short)
