use Rattle.asking_core.specs.Asking.{answered, unread, unsaid}
use Rattle.asking_core.proofs.Turning.{described_watches}
use Rattle.asking_core.proofs.describing.describe.Goals as goal

pub returns-in-Ok-clause-describes : goal.returns-in-Ok-clause-describes
returns-in-Ok-clause-describes g c = answered c.in-Ok.ensures.spelled (c.describe.ensures.same, c.describe.ensures.answered)

pub returns-in-Ok-clause-watched : goal.returns-in-Ok-clause-watched
returns-in-Ok-clause-watched g c =
    described_watches c.args.desk.now c.args.user c.in-Ok.statement c.describe.result c.args.pass.now c.describe.new.pass c.describe.ensures.same c.describe.ensures.answered

pub returns-in-Err-At-clause-describes : goal.returns-in-Err-At-clause-describes
returns-in-Err-At-clause-describes g c = unsaid c.unsaid.ensures

pub returns-in-Err-NoMemory-clause-describes : goal.returns-in-Err-NoMemory-clause-describes
returns-in-Err-NoMemory-clause-describes g c = unread
