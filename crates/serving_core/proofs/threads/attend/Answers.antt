use Rattle.serving_core.proofs.PassLemmas.{worker_of}
use Rattle.serving_core.proofs.threads.attend.Goals as goal

pub returns : goal.returns
returns g c = worker_of g.I.Session.SessionMachine.protocol c.args.service.now.entrance.now c.args.begun.now.value.journal c.args.desk.now c.args.worker c.work.result c.requires.new c.work.ensures
