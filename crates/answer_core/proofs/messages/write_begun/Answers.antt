use Rattle.std.proofs.Common.{◌++◌}
use Rattle.base_core.proofs.Fronts.{front-first, text-broken, text-then}
use Rattle.reply_core.specs.Texts.{head_text}
use Rattle.answer_core.specs.Messages.{closing, line_notice}
use Rattle.answer_core.proofs.messages.write_begun.Goals as goal

pub returns-in_err-write_line_notice : goal.returns-in_err-write_line_notice
returns-in_err-write_line_notice g c =
    let r = c.in_err-write_line_notice.ensures in
    let line = line_notice (head_text c.args.reply.now) in
    let behind = closing c.args.tag 0 c.args.at.0 in
    text-broken g.W.Sink.failed g.W.Sink.taken _ _ (line ++ behind) c.from_residual.result c.from_residual.ensures.0
    (r.0, front-first _ _ line behind r.1)

pub returns : goal.returns
returns g c =
    text-then g.W.Sink.failed g.W.Sink.taken _ _ _ (line_notice (head_text c.args.reply.now)) (closing c.args.tag 0 c.args.at.0) c.write_closing.result
    c.in_ok-write_line_notice.ensures.1 c.write_closing.ensures
