use Rattle.std.proofs.Common.{rules}
use Rattle.capture_core.proofs.active.Active.share.Goals as goal

pub returns-in-Err-clause-err : goal.returns-in-Err-clause-err
returns-in-Err-clause-err c = search rules
