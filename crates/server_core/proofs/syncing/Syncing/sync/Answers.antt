use Rattle.std.proofs.Common.{◌≡◌, Some, sym, ap, ◌∙◌, subst, length, List}
use Rattle.system_core.specs.declared.machine.event.Entry.{Entry}
use Rattle.desk_core.specs.Guarded.{DeskLock, DeskNote, origin_of}
use Rattle.desk_core.specs.Kept.{HasKept}
use Rattle.server_core.specs.Durable.{HasSynced}
use Rattle.server_core.proofs.Fronts.{at_its_desk, front_durable, sync_durable, sync_progress}
use Rattle.server_core.proofs.syncing.Syncing.sync.Goals as goal

pub invariant_of-result : goal.invariant_of-result
invariant_of-result g c =
    let durable = g.I.Syncer.Syncs.durable in
    let look = c.in_ok-look.look in
    let desk = c.args.desk.now in
    let is : c.look.result ≡ Some look = c.in_ok-look.ensures.ok_part in
    let count : look.count ≡ length c.look.new.pass.seen = rw is at c.look.ensures.count in
    let kept : HasKept g.K.Keeper (origin_of desk) c.look.new.pass.seen look.keeper.value = rw is at c.look.ensures.kept in
    let seen : c.note.result.seen ≡ c.look.new.pass.seen = ap (λ (n : DeskNote g.row.K.Denot). n.seen) c.note.ensures.told in
    let reached : HasSynced g.K.Keeper durable (origin_of desk) c.note.result.seen look.count =
    subst (λ (s : List Entry). HasSynced g.K.Keeper durable (origin_of desk) s look.count) (sym seen)
    (sync_progress g.K.Keeper durable (origin_of desk) c.look.new.pass.seen look.count look.keeper.value count kept c.in_ok-sync.ensures) in
    record {
      own = ap (λ (n : DeskNote g.row.K.Denot). n.lock) c.note.ensures.told ∙ (c.look.ensures.same.0 ∙ (c.requires.pass ∙ sym c.requires.desk));
      synced = ∣ at_its_desk g.K.Keeper durable g.I.Instance.desk (λ (d : DeskLock g.row.K.Denot). HasSynced g.K.Keeper durable (origin_of d) c.note.result.seen look.count) desk c.requires.desk reached ∣₁;
    }

pub returns-clause-synced : goal.returns-clause-synced
returns-clause-synced g c =
    let durable = g.I.Syncer.Syncs.durable in
    let look = c.in_ok-look.look in
    let origin = origin_of c.args.desk.now in
    let is : c.look.result ≡ Some look = c.in_ok-look.ensures.ok_part in
    let kept : HasKept g.K.Keeper origin c.look.new.pass.seen look.keeper.value = rw is at c.look.ensures.kept in
    ∣ front_durable g.K.Keeper durable origin c.look.new.pass.seen c.args.pass.now.seen c.look.ensures.seen
    (sync_durable g.K.Keeper durable origin c.look.new.pass.seen look.keeper.value kept c.in_ok-sync.ensures) ∣₁
