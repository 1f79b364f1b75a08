use Rattle.server_core.proofs.SamePass.{one_piece}
use Rattle.server_core.proofs.attending.finish.Goals as goal

pub returns : goal.returns
returns g c = one_piece g.I.Session.SessionMachine.protocol g.I.Instance.by c.args.desk.now c.args.pass.now c.finish-progress.new.pass c.finish-progress.ensures
