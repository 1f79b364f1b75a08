use Rattle.std.proofs.Common.{◌++◌, sym, ap, ◌∙◌}
use Rattle.base_core.proofs.Fronts.{text-same}
use Rattle.reply_core.specs.Texts.{head_text}
use Rattle.system_core.specs.declared.machine.event.Reply.{Reply}
use Rattle.answer_core.specs.Messages.{closing, line_notice, reply_messages}
use Rattle.answer_core.proofs.messages.write_single.Goals as goal

pub returns-in-Begun : goal.returns-in-Begun
returns-in-Begun g c =
    let tag = c.args.tag in
    let reply = c.args.reply.now in
    text-same g.W.Sink.failed g.W.Sink.taken _ _ (line_notice (head_text reply) ++ closing tag 0 c.in-Begun.at.0) (reply_messages tag reply) c.write_begun.result
    (ap (λ (r : Reply). line_notice (head_text r) ++ closing tag 0 c.in-Begun.at.0) c.in-Begun.is ∙ ap (reply_messages tag) (sym c.in-Begun.is)) c.write_begun.ensures
