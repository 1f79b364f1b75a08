use Rattle.std.proofs.Common.{rules}
use Rattle.login_core.proofs.beginning.Beginning.read.Goals as goal

pub returns : goal.returns
returns c = search rules
