use Rattle.std.proofs.Common.{rules}
use Rattle.reply_core.proofs.writing.write_list.Goals as goal

pub returns-in-Rows : goal.returns-in-Rows
returns-in-Rows g c = search rules
