use Rattle.std.proofs.Common.{rules}
use Rattle.load_core.proofs.replayer.Replayer.note_entered.Goals as goal

pub returns-else-is_err : goal.returns-else-is_err
returns-else-is_err c = search rules
