use Rattle.std.proofs.Common.{rules}
use Rattle.base_core.proofs.stream.StdSourceSource.read.Goals as goal

pub returns-in-Err-clause-failed : goal.returns-in-Err-clause-failed
returns-in-Err-clause-failed g c = search rules
