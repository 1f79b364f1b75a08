use Rattle.std.proofs.Common.{rules}
use Rattle.load_core.proofs.replaying.read_lines.Goals as goal

pub returns-in-Journal-clause-ends : goal.returns-in-Journal-clause-ends
returns-in-Journal-clause-ends g c = search rules
