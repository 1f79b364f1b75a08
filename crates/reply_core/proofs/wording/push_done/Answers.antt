use Rattle.std.proofs.Common.{rules}
use Rattle.reply_core.proofs.wording.push_done.Goals as goal

pub returns : goal.returns
returns c = search rules
