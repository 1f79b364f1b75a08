use Rattle.std.proofs.Common.{rules}
use Rattle.tables_core.proofs.captured.Captured.push.Goals as goal

pub returns-clause-due : goal.returns-clause-due
returns-clause-due c = search rules
