use Rattle.std.proofs.Common.{rules}
use Rattle.system_core.proofs.machine.ledger.Ledger.audit.Goals as goal

pub returns : goal.returns
returns c = search rules
