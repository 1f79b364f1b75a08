use Rattle.std.proofs.Common.{None, ap, subst, sym}
use Rattle.std.proofs.lemmas.Result.{IfOk-weaker, on_err_weaker}
use Rattle.base_core.specs.Streams.{Writes}
use Rattle.base_core.specs.declared.value.Moment.{Moment}
use Rattle.base_core.proofs.Fronts.{on_err}
use Rattle.answer_core.specs.Replies.{BeginsAnswer, frame_of, reply_rows, unsent_of}
use Rattle.answer_core.specs.declared.items.Items.TheVariants as items
use Rattle.answer_core.specs.declared.unsent.Progress.TheVariants as progresses
use Rattle.answer_core.specs.declared.unsent.Remainder.TheVariants as remainders
use Rattle.answer_core.proofs.Beginning.{begun_below, breaks_begun, breaks_messages, unbegun_below, writes_begun}
use Rattle.answer_core.proofs.Going.{nothing_yet}
use Rattle.answer_core.proofs.answering.begin_answer.Goals as goal

pub returns-in_err-write_single-clause-err : goal.returns-in_err-write_single-clause-err
returns-in_err-write_single-clause-err g c =
    let before = g.W.Sink.taken c.args.writer.now in
    let after = g.W.Sink.taken c.write_single.new.writer in
    on_err c.from_residual.result (breaks_messages c.args.request c.args.reply before before after c.in_err-write_single.ensures.1)

pub returns-in-Rows-clause-ok : goal.returns-in-Rows-clause-ok
returns-in-Rows-clause-ok g c =
    let request = c.args.request in
    let u = unsent_of (remainders.Listed (items.Rows c.in-Rows.rows) 0) (frame_of request c.in-Rows.at) request.most in
    IfOk-weaker c.go_on_listed.result _ _
    (writes_begun request c.args.reply (g.W.Sink.taken c.args.writer.now) (g.W.Sink.taken c.write_single.new.writer) (g.W.Sink.taken c.go_on_listed.new.writer)
    u (ap (reply_rows request) c.in-Rows.is) c.in_ok-write_single.ensures.1) c.go_on_listed.ensures.ok

pub returns-in-Rows-clause-progress : goal.returns-in-Rows-clause-progress
returns-in-Rows-clause-progress g c =
    let request = c.args.request in
    let u = unsent_of (remainders.Listed (items.Rows c.in-Rows.rows) 0) (frame_of request c.in-Rows.at) request.most in
    IfOk-weaker c.go_on_listed.result _ _ (begun_below request c.args.reply u (ap (reply_rows request) c.in-Rows.is)) c.go_on_listed.ensures.progress

pub returns-in-Rows-clause-err : goal.returns-in-Rows-clause-err
returns-in-Rows-clause-err g c =
    let request = c.args.request in
    let u = unsent_of (remainders.Listed (items.Rows c.in-Rows.rows) 0) (frame_of request c.in-Rows.at) request.most in
    on_err_weaker c.go_on_listed.result
    (breaks_begun request c.args.reply (g.W.Sink.taken c.args.writer.now) (g.W.Sink.taken c.write_single.new.writer) (g.W.Sink.taken c.go_on_listed.new.writer)
    u (ap (reply_rows request) c.in-Rows.is) c.in_ok-write_single.ensures.1) c.go_on_listed.ensures.err

pub returns-in-Listed-clause-ok : goal.returns-in-Listed-clause-ok
returns-in-Listed-clause-ok g c =
    let request = c.args.request in
    let u = unsent_of (remainders.Listed (items.Checkpoints c.in-Listed.entries) 0) (frame_of request c.in-Listed.at) request.most in
    IfOk-weaker c.go_on_listed-in-Listed.result _ _
    (writes_begun request c.args.reply (g.W.Sink.taken c.args.writer.now) (g.W.Sink.taken c.write_single.new.writer) (g.W.Sink.taken c.go_on_listed-in-Listed.new.writer)
    u (ap (reply_rows request) c.in-Listed.is) c.in_ok-write_single.ensures.1) c.go_on_listed-in-Listed.ensures.ok

pub returns-in-Listed-clause-progress : goal.returns-in-Listed-clause-progress
returns-in-Listed-clause-progress g c =
    let request = c.args.request in
    let u = unsent_of (remainders.Listed (items.Checkpoints c.in-Listed.entries) 0) (frame_of request c.in-Listed.at) request.most in
    IfOk-weaker c.go_on_listed-in-Listed.result _ _ (begun_below request c.args.reply u (ap (reply_rows request) c.in-Listed.is)) c.go_on_listed-in-Listed.ensures.progress

pub returns-in-Listed-clause-err : goal.returns-in-Listed-clause-err
returns-in-Listed-clause-err g c =
    let request = c.args.request in
    let u = unsent_of (remainders.Listed (items.Checkpoints c.in-Listed.entries) 0) (frame_of request c.in-Listed.at) request.most in
    on_err_weaker c.go_on_listed-in-Listed.result
    (breaks_begun request c.args.reply (g.W.Sink.taken c.args.writer.now) (g.W.Sink.taken c.write_single.new.writer) (g.W.Sink.taken c.go_on_listed-in-Listed.new.writer)
    u (ap (reply_rows request) c.in-Listed.is) c.in_ok-write_single.ensures.1) c.go_on_listed-in-Listed.ensures.err

pub returns-in-Export-clause-ok : goal.returns-in-Export-clause-ok
returns-in-Export-clause-ok g c =
    let request = c.args.request in
    let rest = remainders.Export (record { ticket = c.in-Export.ticket; ahead = None }) 0 in
    let u = unsent_of rest (frame_of request c.in-Export.ticket.at) request.most in
    let before = g.W.Sink.taken c.args.writer.now in
    let after = g.W.Sink.taken c.write_single.new.writer in
    subst (λ (m : Moment). Writes (BeginsAnswer request c.args.reply (progresses.Part (unsent_of rest (frame_of request m) request.most))) before after) (sym c.at-at.ensures)
    (writes_begun request c.args.reply before after after u (ap (reply_rows request) c.in-Export.is) c.in_ok-write_single.ensures.1 (progresses.Part u) (nothing_yet u after))

pub returns-in-Export-clause-progress : goal.returns-in-Export-clause-progress
returns-in-Export-clause-progress g c =
    let request = c.args.request in
    let rest = remainders.Export (record { ticket = c.in-Export.ticket; ahead = None }) 0 in
    unbegun_below request c.args.reply (unsent_of rest (frame_of request c.in-Export.ticket.at) request.most) (ap (reply_rows request) c.in-Export.is)
