use Rattle.std.proofs.Common.{refl}
use Rattle.system_core.proofs.machine.system.System.describe.Goals as goal

pub returns : goal.returns
returns c = (c.description-reply.ensures, refl)
