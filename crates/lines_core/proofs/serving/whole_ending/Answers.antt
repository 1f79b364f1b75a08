use Rattle.std.proofs.Common.{rules}
use Rattle.lines_core.proofs.serving.whole_ending.Goals as goal

pub returns-else-is_empty : goal.returns-else-is_empty
returns-else-is_empty c = search rules
