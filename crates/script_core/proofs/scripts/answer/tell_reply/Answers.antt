use Rattle.std.proofs.Common.{sym, ◌∙◌}
use Rattle.base_core.proofs.Fronts.{write-map}
use Rattle.reply_core.specs.Telling.{TellsReply}
use Rattle.script_core.specs.Replying.{TellsThen}
use Rattle.script_core.specs.declared.scripts.answer.Said.TheVariants as says
use Rattle.script_core.proofs.Answering.{said-idle}
use Rattle.script_core.proofs.scripts.answer.tell_reply.Goals as goal

pub returns-then-is_idle : goal.returns-then-is_idle
returns-then-is_idle g c =
    let w = c.args.system.now in
    let said = says.Answer c.args.reply in
    write-map g.W.Sink.failed g.W.Sink.taken _ _ (TellsReply c.args.reply) (TellsThen said w w) c.write_reply.result
    (said-idle w said (sym c.is_idle.ensures ∙ c.if-is_idle.true)) c.write_reply.ensures
