use Rattle.std.proofs.Common.{rules}
use Rattle.load_core.proofs.replayer.is_too_long.Goals as goal

pub returns-in-Fault-TooLong-default : goal.returns-in-Fault-TooLong-default
returns-in-Fault-TooLong-default c = search rules
