use Rattle.std.proofs.Common.{rules}
use Rattle.load_core.proofs.replayer.Replayer.leave_out.Goals as goal

pub returns-then-is_none : goal.returns-then-is_none
returns-then-is_none c = search rules
