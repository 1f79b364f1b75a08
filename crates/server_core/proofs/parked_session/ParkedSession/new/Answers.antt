use Rattle.std.proofs.Common.{None, ap}
use Rattle.session_core.specs.Machines.{MachineState}
use Rattle.server_core.specs.Sessions.{lock_told}
use Rattle.server_core.proofs.parked_session.ParkedSession.new.Goals as goal

pub invariant_of-result : goal.invariant_of-result
invariant_of-result g c = record {
  admitted = ∣ c.requires ∣₁;
  come = ∣ (λ desk is. c.in_ok-parked.ensures.come desk c.args.admission None None) ∣₁;
  noted = ap (λ (s : MachineState g.row.K.Denot). lock_told g.I.Instance.desk s.note) c.in_ok-parked.ensures.first;
}
