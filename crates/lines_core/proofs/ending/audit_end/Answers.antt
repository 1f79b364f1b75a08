use Rattle.std.proofs.Common.{rules}
use Rattle.lines_core.proofs.ending.audit_end.Goals as goal

pub returns-in_default-clause-status : goal.returns-in_default-clause-status
returns-in_default-clause-status c = search rules
