use Rattle.std.proofs.Common.{◌≡◌, Some, ◌∙◌, sym, subst}
use Rattle.door_core.specs.Entrance.{Admittance}
use Rattle.server_core.specs.Sessions.{Working, ServesPieces, nobody, watched}
use Rattle.server_core.proofs.SamePass.{pieces_same, looked_own, attended_pieces, attended_count}
use Rattle.server_core.proofs.worker.work.Goals as goal

pub loop-init : goal.loop-init
loop-init g c = record {
  own = subst (λ (w : Working g.row.K.Denot). w.pass.lock ≡ Some c.args.desk.now) (sym c.worker.view_is) c.requires.pass;
  part = c.worker.invariant.0;
  nothing = c.worker.invariant.1;
  served = nobody;
}

pub loop-preserved-in-Door : goal.loop-preserved-in-Door
loop-preserved-in-Door g c =
    let protocol = g.I.Session.SessionMachine.protocol in
    let by = c.args.service.now.entrance.now in
    let old : Working g.row.K.Denot = record { pass = c.worker.inside.pass; sessions = c.worker.inside.token.amount } in
    let between : Working g.row.K.Denot = record { pass = c.loop.pass; sessions = c.loop.token.amount } in
    record {
      own = c.loop.invariant.own;
      part = c.open_door.ensures.parts ∙ c.loop.invariant.part;
      nothing = c.loop.invariant.nothing;
      served = attended_count protocol by c.args.desk.now old between c.open_door.new.token.amount c.loop.invariant.served c.open_door.ensures.amount;
    }

pub loop-preserved-in-Session : goal.loop-preserved-in-Session
loop-preserved-in-Session g c =
    let protocol = g.I.Session.SessionMachine.protocol in
    let by = c.args.service.now.entrance.now in
    let desk = c.args.desk.now in
    let old : Working g.row.K.Denot = record { pass = c.worker.inside.pass; sessions = c.worker.inside.token.amount } in
    let between : Working g.row.K.Denot = record { pass = c.loop.pass; sessions = c.loop.token.amount } in
    let served : ServesPieces protocol by desk c.loop.pass c.attend.new.pass = subst (λ (b : Admittance). ServesPieces protocol b desk c.loop.pass c.attend.new.pass) c.requires.by c.attend.ensures.pieces in
    record {
      own = (pieces_same protocol by desk c.loop.pass c.attend.new.pass served).0 ∙ c.loop.invariant.own;
      part = c.loop.invariant.part;
      nothing = c.attend.ensures.handed_on;
      served = attended_pieces protocol by desk old between c.attend.new.pass c.loop.invariant.served served;
    }

pub loop-preserved : goal.loop-preserved
loop-preserved g c =
    let between : Working g.row.K.Denot = record { pass = c.loop.pass; sessions = c.loop.token.amount } in
    record {
      own = looked_own c.args.desk.now c.loop.pass c.tell_all.new.pass c.tell_all.ensures.watched c.loop.invariant.own;
      part = c.loop.invariant.part;
      nothing = c.tell_all.ensures.handed_on;
      served = watched between c.tell_all.new.pass c.loop.invariant.served c.tell_all.ensures.watched;
    }
