use Rattle.std.proofs.Common.{rules}
use Rattle.reply_core.proofs.writing.write_fault.Goals as goal

pub returns : goal.returns
returns g c = search rules
