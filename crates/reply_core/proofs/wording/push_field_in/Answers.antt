use Rattle.std.proofs.Common.{rules}
use Rattle.reply_core.proofs.Fields.{field_text-decimal}
use Rattle.reply_core.proofs.wording.push_field_in.Goals as goal

pub returns-clause-text : goal.returns-clause-text
returns-clause-text c = rw (field_text-decimal c.args.number (search rules)) c.push_number_in.ensures.text
