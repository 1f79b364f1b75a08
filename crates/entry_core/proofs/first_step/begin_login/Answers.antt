use Rattle.entry_core.proofs.Firsts.{begins_none}
use Rattle.entry_core.proofs.first_step.begin_login.Goals as goal

pub returns-in-Ok-None : goal.returns-in-Ok-None
returns-in-Ok-None c =
    begins_none c.args.users.now c.args.secret.now c.args.own.now c.args.user c.args.body.now c.in-Some.first.now c.in-Some.ensures
    (rw c.in-Ok-None.field-0-is at c.in-Ok-None.ensures)
