use Rattle.std.proofs.Common.{rules}
use Rattle.export_core.proofs.judgement.settle.Goals as goal

pub returns-then-is_any : goal.returns-then-is_any
returns-then-is_any c = search rules
