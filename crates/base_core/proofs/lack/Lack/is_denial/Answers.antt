use Rattle.std.proofs.Common.{rules}
use Rattle.base_core.proofs.lack.Lack.is_denial.Goals as goal

pub returns-else-code-le20 : goal.returns-else-code-le20
returns-else-code-le20 c = search rules
