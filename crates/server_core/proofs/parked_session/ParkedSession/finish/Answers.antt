use Rattle.std.proofs.Common.{None, Ok, Err}
use Rattle.std.proofs.Math.Logic.{∥∥₁_map}
use Rattle.lines_core.specs.declared.serving.SessionFault.TheVariants as faults
use Rattle.session_core.specs.Stopping.{written_on}
use Rattle.server_core.specs.Sessions.{nothing_known}
use Rattle.server_core.proofs.Pieces.{serves}
use Rattle.server_core.proofs.parked_session.ParkedSession.finish.Goals as goal

pub returns-in-Ok : goal.returns-in-Ok
returns-in-Ok g c =
    let law = g.met.I.Session.SessionMachine in
    let desk = c.args.desk.now in
    let admission = c.args.self.admission in
    let session = c.finish-finished.new.self in
    let before = g.W.Sink.taken c.args.writer.now in
    let state = g.I.Session.SessionMachine.state session in
    let rest = law.payable session in
    let all = written_on (g.W.Sink.taken c.finish-finished.new.writer) rest.0 in
    serves g.I.Session.SessionMachine.protocol g.I.Instance.by desk admission c.args.pass.now c.finish-finished.new.pass state.user state.note c.args.self.admitted
    (∥∥₁_map c.args.self.come (λ come. law.spoken desk admission session (Ok tt) nothing_known (law.ended_unseen desk admission session (Ok tt) all.0 None
    (c.in-Ok.ensures.ended None None None None all.0 rest.0 (law.come_unseen desk admission c.args.self.parked None before (come desk c.requires.desk)) tt tt rest.1 all.1))))
    c.finish-finished.ensures.noted c.finish-finished.ensures.gained

pub returns : goal.returns
returns g c =
    let law = g.met.I.Session.SessionMachine in
    let desk = c.args.desk.now in
    let admission = c.args.self.admission in
    let session = c.finish-finished.new.self in
    let before = g.W.Sink.taken c.args.writer.now in
    let after = g.W.Sink.taken c.finish-finished.new.writer in
    let state = g.I.Session.SessionMachine.state session in
    serves g.I.Session.SessionMachine.protocol g.I.Instance.by desk admission c.args.pass.now c.finish-finished.new.pass state.user state.note c.args.self.admitted
    (∥∥₁_map c.args.self.come (λ come. law.spoken desk admission session (Err faults.Write) nothing_known (law.ended_unseen desk admission session (Err faults.Write) after None
    (c.in-Err.ensures.broken None None None None (law.come_unseen desk admission c.args.self.parked None before (come desk c.requires.desk)) tt tt))))
    c.finish-finished.ensures.noted c.finish-finished.ensures.gained
