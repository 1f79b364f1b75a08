use Rattle.std.proofs.Common.{sym, subst}
use Rattle.session_core.specs.Gains.{Watches}
use Rattle.session_core.proofs.Growing.{Watches-refl, Watches-trans}
use Rattle.server_core.proofs.SamePass.{looked_own}
use Rattle.server_core.proofs.leaving.tell_more.Goals.{in-None, in-Some+in_default, in-Some+in-Some-owed+in_ok-ok_or+then-not-branch}
use Rattle.server_core.proofs.leaving.tell_more.Goals as goal

pub loop-init : goal.loop-init
loop-init g c = record { own = c.requires.pass; watched = Watches-refl c.args.pass.now }

pub has_room-room-requires-clause-pass : goal.has_room-room-requires-clause-pass
has_room-room-requires-clause-pass g c = c.loop.invariant.own

pub returns-in_err-ok_or : goal.returns-in_err-ok_or
returns-in_err-ok_or g c = Watches-trans c.args.pass.now c.loop.pass c.has_room-room.new.pass c.loop.invariant.watched c.has_room-room.ensures

pub returns-in_err-owed : goal.returns-in_err-owed
returns-in_err-owed g c = Watches-trans c.args.pass.now c.loop.pass c.has_room-room.new.pass c.loop.invariant.watched c.has_room-room.ensures

pub loop-preserved : goal.loop-preserved
loop-preserved g c = record {
  own = looked_own c.args.desk.now c.loop.pass c.has_room-room.new.pass c.has_room-room.ensures c.loop.invariant.own;
  watched = Watches-trans c.args.pass.now c.loop.pass c.has_room-room.new.pass c.loop.invariant.watched c.has_room-room.ensures;
}

pub sync_seen-requires-clause-pass : goal.sync_seen-requires-clause-pass
sync_seen-requires-clause-pass g c =
    let old = c.args.pass.now in
    let mid : Watches old c.match-next.pass = elim c.match-next.branch [
      | in-None w ↦ subst (Watches old) (sym w.pass-is) c.loop.invariant.watched
      | in-Some+in_default w ↦ subst (Watches old) (sym w.pass-is) c.loop.invariant.watched
      | in-Some+in-Some-owed+in_ok-ok_or+then-not-branch w ↦ subst (Watches old) (sym w.pass-is) (Watches-trans old c.loop.pass w.has_room-room.new.pass c.loop.invariant.watched w.has_room-room.ensures)
    ] in
    looked_own c.args.desk.now old c.match-next.pass mid c.requires.pass

pub returns-in_err-synced : goal.returns-in_err-synced
returns-in_err-synced g c =
    let old = c.args.pass.now in
    let mid : Watches old c.match-next.pass = elim c.match-next.branch [
      | in-None w ↦ subst (Watches old) (sym w.pass-is) c.loop.invariant.watched
      | in-Some+in_default w ↦ subst (Watches old) (sym w.pass-is) c.loop.invariant.watched
      | in-Some+in-Some-owed+in_ok-ok_or+then-not-branch w ↦ subst (Watches old) (sym w.pass-is) (Watches-trans old c.loop.pass w.has_room-room.new.pass c.loop.invariant.watched w.has_room-room.ensures)
    ] in
    Watches-trans old c.match-next.pass c.sync_seen.new.pass mid c.sync_seen.ensures.watched

pub returns-then-not-hand_on : goal.returns-then-not-hand_on
returns-then-not-hand_on g c =
    let old = c.args.pass.now in
    let mid : Watches old c.match-next.pass = elim c.match-next.branch [
      | in-None w ↦ subst (Watches old) (sym w.pass-is) c.loop.invariant.watched
      | in-Some+in_default w ↦ subst (Watches old) (sym w.pass-is) c.loop.invariant.watched
      | in-Some+in-Some-owed+in_ok-ok_or+then-not-branch w ↦ subst (Watches old) (sym w.pass-is) (Watches-trans old c.loop.pass w.has_room-room.new.pass c.loop.invariant.watched w.has_room-room.ensures)
    ] in
    Watches-trans old c.match-next.pass c.sync_seen.new.pass mid c.sync_seen.ensures.watched

pub returns : goal.returns
returns g c =
    let old = c.args.pass.now in
    let mid : Watches old c.match-next.pass = elim c.match-next.branch [
      | in-None w ↦ subst (Watches old) (sym w.pass-is) c.loop.invariant.watched
      | in-Some+in_default w ↦ subst (Watches old) (sym w.pass-is) c.loop.invariant.watched
      | in-Some+in-Some-owed+in_ok-ok_or+then-not-branch w ↦ subst (Watches old) (sym w.pass-is) (Watches-trans old c.loop.pass w.has_room-room.new.pass c.loop.invariant.watched w.has_room-room.ensures)
    ] in
    Watches-trans old c.match-next.pass c.sync_seen.new.pass mid c.sync_seen.ensures.watched
