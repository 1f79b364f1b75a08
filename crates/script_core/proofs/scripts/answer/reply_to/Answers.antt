use Rattle.std.proofs.Common.{sym, ◌∙◌}
use Rattle.script_core.proofs.scripts.answer.reply_to.Goals as goal

pub deny-requires : goal.deny-requires
deny-requires c = λ allowed. c.requires (allowed, sym c.is_change.ensures ∙ c.if-is_change.true)
