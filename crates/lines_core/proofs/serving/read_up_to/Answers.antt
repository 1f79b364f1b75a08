use Rattle.std.proofs.Common.{rules}
use Rattle.lines_core.proofs.serving.read_up_to.Goals as goal

pub returns-clause-failed : goal.returns-clause-failed
returns-clause-failed g c = search rules
