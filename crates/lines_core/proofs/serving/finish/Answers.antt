use Rattle.std.proofs.Common.{rules}
use Rattle.lines_core.proofs.serving.finish.Goals as goal

pub returns-clause-flushed : goal.returns-clause-flushed
returns-clause-flushed g c = search rules
