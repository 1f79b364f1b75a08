use Rattle.std.proofs.Common.{◌≡◌, ℕ, List, refl}
use Rattle.base_core.proofs.Fronts.{Both, first-broken, WritesFrontOf-map, write-broken, write-map, write-then}
use Rattle.reply_core.specs.Texts.{reply_text}
use Rattle.reply_core.specs.Telling.{TellsReply, TellsRecords}
use Rattle.reply_core.proofs.WritingLemmas.{some_records, both-tells}
use Rattle.reply_core.proofs.writing.write_reply.Goals as goal

pub returns-in_err-write_text : goal.returns-in_err-write_text
returns-in_err-write_text g c =
    let reply = c.args.reply in
    let Text : List ℕ → Type 0 = λ t. t ≡ reply_text reply in
    let before = g.W.Sink.taken c.args.writer.now in
    let after = g.W.Sink.taken c.write_text.new.writer in
    let more = some_records reply in
    let r = c.in_err-write_text.ensures in
    write-broken g.W.Sink.failed g.W.Sink.taken _ _ (TellsReply reply) c.from_residual.result c.from_residual.ensures.0 (
      r.0,
      WritesFrontOf-map (Both Text (TellsRecords reply)) (TellsReply reply) before after (both-tells reply)
          (first-broken Text (TellsRecords reply) before after more.0 more.1 (record { text = reply_text reply; is = refl; wrote = r.1 })),
    )

pub returns : goal.returns
returns g c =
    let reply = c.args.reply in
    let Text : List ℕ → Type 0 = λ t. t ≡ reply_text reply in
    write-map g.W.Sink.failed g.W.Sink.taken _ _ (Both Text (TellsRecords reply)) (TellsReply reply) c.write_records.result (both-tells reply)
    (write-then g.W.Sink.failed g.W.Sink.taken _ _ _ Text (TellsRecords reply) c.write_records.result
    (record { text = reply_text reply; is = refl; wrote = c.in_ok-write_text.ensures.1 }) c.write_records.ensures)
