use Rattle.std.proofs.Common.{◌++◌, ◌∙◌, sym, subst}
use Rattle.std.specs.Io.KnownBytes.{Appends}
use Rattle.base_core.specs.Streams.{WritesFront}
use Rattle.base_core.proofs.Fronts.{front-first, text-broken, text-same, text-then}
use Rattle.reply_core.specs.Texts.{head_text, list_text, reply_text}
use Rattle.reply_core.proofs.WritingLemmas.{head_then_list}
use Rattle.reply_core.proofs.writing.write_text.Goals as goal

pub returns-in_err-write_all : goal.returns-in_err-write_all
returns-in_err-write_all g c =
    let before = g.W.Sink.taken c.args.writer.now in
    let after = g.W.Sink.taken c.write_all.new.writer in
    let reply = c.args.reply.now in
    let r = c.in_err-write_all.ensures in
    let head : WritesFront before after (head_text reply) = subst (λ t. WritesFront before after t) (c.as_slice.ensures.text ∙ c.push_head.ensures) r.1 in
    text-broken g.W.Sink.failed g.W.Sink.taken _ _ (reply_text reply) c.from_residual.result c.from_residual.ensures.0
    (r.0, subst (λ t. WritesFront before after t) (sym (head_then_list reply)) (front-first before after (head_text reply) (list_text reply) head))

pub returns : goal.returns
returns g c =
    let before = g.W.Sink.taken c.args.writer.now in
    let between = g.W.Sink.taken c.write_all.new.writer in
    let reply = c.args.reply.now in
    let head : Appends before between (head_text reply) = subst (λ t. Appends before between t) (c.as_slice.ensures.text ∙ c.push_head.ensures) c.in_ok-write_all.ensures.1 in
    text-same g.W.Sink.failed g.W.Sink.taken _ _ (head_text reply ++ list_text reply) (reply_text reply) c.write_list.result (sym (head_then_list reply))
    (text-then g.W.Sink.failed g.W.Sink.taken _ _ _ (head_text reply) (list_text reply) c.write_list.result head c.write_list.ensures)
