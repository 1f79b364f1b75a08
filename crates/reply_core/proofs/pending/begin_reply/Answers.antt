use Rattle.std.proofs.Common.{◌∙◌, None, Some, ap, subst}
use Rattle.std.specs.Io.KnownBytes.{Appends}
use Rattle.std.proofs.lemmas.Result.{IfOk-weaker, on_err_weaker}
use Rattle.base_core.specs.Streams.{WritesFront}
use Rattle.base_core.proofs.Fronts.{on_err}
use Rattle.reply_core.specs.Texts.{head_text}
use Rattle.reply_core.specs.declared.pending.Pending.TheVariants as pendings
use Rattle.reply_core.proofs.PendingLemmas.{begins_behind, behind_head, breaks_begun, breaks_head, writes_begun}
use Rattle.reply_core.proofs.pending.begin_reply.Goals as goal

pub returns-in_err-write_all-clause-err : goal.returns-in_err-write_all-clause-err
returns-in_err-write_all-clause-err g c =
    let reply = c.args.reply in
    let before = g.W.Sink.taken c.args.writer.now in
    let after = g.W.Sink.taken c.write_all.new.writer in
    let head : WritesFront before after (head_text reply) = subst (λ t. WritesFront before after t) (c.as_slice.ensures.text ∙ c.push_head.ensures) c.in_err-write_all.ensures.1 in
    on_err c.from_residual.result (breaks_head reply before after head)

pub returns-in-Rows-clause-ok : goal.returns-in-Rows-clause-ok
returns-in-Rows-clause-ok g c =
    let reply = c.args.reply in
    let before = g.W.Sink.taken c.args.writer.now in
    let mid = g.W.Sink.taken c.write_all.new.writer in
    let head : Appends before mid (head_text reply) = subst (λ t. Appends before mid t) (c.as_slice.ensures.text ∙ c.push_head.ensures) c.in_ok-write_all.ensures.1 in
    let behind = pendings.Rows c.in-Rows.rows 0 in
    let begins = begins_behind reply (Some behind) (ap behind_head c.in-Rows.is) in
    IfOk-weaker c.go_on_rows.result _ _ (writes_begun reply behind (head_text reply) begins before mid (g.W.Sink.taken c.go_on_rows.new.writer) head) c.go_on_rows.ensures.ok

pub returns-in-Rows-clause-err : goal.returns-in-Rows-clause-err
returns-in-Rows-clause-err g c =
    let reply = c.args.reply in
    let before = g.W.Sink.taken c.args.writer.now in
    let mid = g.W.Sink.taken c.write_all.new.writer in
    let head : Appends before mid (head_text reply) = subst (λ t. Appends before mid t) (c.as_slice.ensures.text ∙ c.push_head.ensures) c.in_ok-write_all.ensures.1 in
    let behind = pendings.Rows c.in-Rows.rows 0 in
    let begins = begins_behind reply (Some behind) (ap behind_head c.in-Rows.is) in
    on_err_weaker c.go_on_rows.result (breaks_begun reply behind (head_text reply) begins before mid (g.W.Sink.taken c.go_on_rows.new.writer) head) c.go_on_rows.ensures.err

pub returns-in-Listed-clause-ok : goal.returns-in-Listed-clause-ok
returns-in-Listed-clause-ok g c =
    let reply = c.args.reply in
    let before = g.W.Sink.taken c.args.writer.now in
    let mid = g.W.Sink.taken c.write_all.new.writer in
    let head : Appends before mid (head_text reply) = subst (λ t. Appends before mid t) (c.as_slice.ensures.text ∙ c.push_head.ensures) c.in_ok-write_all.ensures.1 in
    let behind = pendings.Listed c.in-Listed.entries 0 in
    let begins = begins_behind reply (Some behind) (ap behind_head c.in-Listed.is) in
    IfOk-weaker c.go_on_listed.result _ _ (writes_begun reply behind (head_text reply) begins before mid (g.W.Sink.taken c.go_on_listed.new.writer) head) c.go_on_listed.ensures.ok

pub returns-in-Listed-clause-err : goal.returns-in-Listed-clause-err
returns-in-Listed-clause-err g c =
    let reply = c.args.reply in
    let before = g.W.Sink.taken c.args.writer.now in
    let mid = g.W.Sink.taken c.write_all.new.writer in
    let head : Appends before mid (head_text reply) = subst (λ t. Appends before mid t) (c.as_slice.ensures.text ∙ c.push_head.ensures) c.in_ok-write_all.ensures.1 in
    let behind = pendings.Listed c.in-Listed.entries 0 in
    let begins = begins_behind reply (Some behind) (ap behind_head c.in-Listed.is) in
    on_err_weaker c.go_on_listed.result (breaks_begun reply behind (head_text reply) begins before mid (g.W.Sink.taken c.go_on_listed.new.writer) head) c.go_on_listed.ensures.err

pub returns-in-Export-clause-ok : goal.returns-in-Export-clause-ok
returns-in-Export-clause-ok g c =
    let reply = c.args.reply in
    let before = g.W.Sink.taken c.args.writer.now in
    let mid = g.W.Sink.taken c.write_all.new.writer in
    let head : Appends before mid (head_text reply) = subst (λ t. Appends before mid t) (c.as_slice.ensures.text ∙ c.push_head.ensures) c.in_ok-write_all.ensures.1 in
    record {
      text = head_text reply;
      is = begins_behind reply (Some (pendings.Export c.in-Export.ticket)) (ap behind_head c.in-Export.is);
      wrote = head;
    }

pub returns-in-Described-clause-ok : goal.returns-in-Described-clause-ok
returns-in-Described-clause-ok g c =
    let reply = c.args.reply in
    let before = g.W.Sink.taken c.args.writer.now in
    let mid = g.W.Sink.taken c.write_all.new.writer in
    let head : Appends before mid (head_text reply) = subst (λ t. Appends before mid t) (c.as_slice.ensures.text ∙ c.push_head.ensures) c.in_ok-write_all.ensures.1 in
    record {
      text = head_text reply;
      is = begins_behind reply None (ap behind_head c.in-Described.is);
      wrote = head;
    }
