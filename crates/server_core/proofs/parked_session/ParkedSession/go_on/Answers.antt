use Rattle.std.proofs.Common.{None, ap, ◌∙◌}
use Rattle.std.proofs.Math.Logic.{∥∥₁_map}
use Rattle.session_core.specs.Machines.{MachineState}
use Rattle.server_core.specs.Sessions.{lock_told}
use Rattle.server_core.proofs.parked_session.ParkedSession.go_on.Goals as goal

pub invariant_of-session : goal.invariant_of-session
invariant_of-session g c =
    let law = g.met.I.Session.SessionMachine in
    let admission = c.args.self.admission in
    let before = g.W.Sink.taken c.args.writer.now in
    let after = g.W.Sink.taken c.go_on.new.writer in
    record {
      admitted = c.args.self.admitted;
      come = ∥∥₁_map c.args.self.come (λ come desk is. law.come_unseen desk admission c.go_on.new.self after None
          (c.in-Ok.ensures.went_on desk admission None None None (law.come_unseen desk admission c.args.self.parked None before (come desk is))));
      noted = ap (λ (s : MachineState g.row.K.Denot). lock_told g.I.Instance.desk s.note) c.go_on.ensures.kept ∙ c.args.self.noted;
    }
