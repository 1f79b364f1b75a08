use Rattle.std.proofs.Common.{rules}
use Rattle.load_core.proofs.replayer.line_behind.Goals as goal

pub returns-then-count-eq0 : goal.returns-then-count-eq0
returns-then-count-eq0 c = search rules
