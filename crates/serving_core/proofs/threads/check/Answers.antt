use Rattle.serving_core.proofs.PassLemmas.{checkpointer_of}
use Rattle.serving_core.proofs.threads.check.Goals as goal

pub returns : goal.returns
returns g c = checkpointer_of c.args.begun.now.value.journal c.args.desk.now c.args.pass c.checkpointer.new.pass c.requires c.checkpointer.ensures.looks c.checkpointer.ensures.watches.same
