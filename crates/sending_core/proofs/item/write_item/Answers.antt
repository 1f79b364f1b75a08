use Rattle.std.proofs.Common.{◌+◌, None, refl, sym, subst, arith}
use Rattle.std.specs.Prelude.{IfOk, OnErr}
use Rattle.std.proofs.lemmas.Result.{IfOk-weaker}
use Rattle.base_core.specs.Streams.{Writes, WritesFrontOf}
use Rattle.base_core.proofs.Fronts.{on_err}
use Rattle.answer_core.specs.Answers.{Continues}
use Rattle.answer_core.specs.Remaining.{rows_to_come}
use Rattle.answer_core.specs.Replies.{row_count, reply_rows}
use Rattle.answer_core.specs.declared.unsent.Progress.{Progress}
use Rattle.sending_core.specs.Owing.{IsTold, TakesFewer, Tells, calls_of}
use Rattle.sending_core.specs.Plain.{plain_text}
use Rattle.sending_core.specs.declared.item.Item.{Item}
use Rattle.sending_core.proofs.Owings.{fewer_than}
use Rattle.sending_core.proofs.item.write_item.Goals as goal

pub returns-in_err-write_plain-in-Plain-clause-err : goal.returns-in_err-write_plain-in-Plain-clause-err
returns-in_err-write_plain-in-Plain-clause-err g c =
    let text = plain_text c.in-Plain.plain in
    on_err c.from_residual.result (record {
      text = text;
      is = (None, subst (λ (i : Item). Tells i text None) (sym c.in-Plain.is) (refl, refl));
      wrote = c.in_err-write_plain-in-Plain.ensures.1;
    })

pub returns-in_ok-write_plain-in-Plain-clause-ok : goal.returns-in_ok-write_plain-in-Plain-clause-ok
returns-in_ok-write_plain-in-Plain-clause-ok g c =
    let text = plain_text c.in-Plain.plain in
    record {
      text = text;
      is = subst (λ (i : Item). Tells i text None) (sym c.in-Plain.is) (refl, refl);
      wrote = c.in_ok-write_plain-in-Plain.ensures.1;
    }

pub returns-in-Answer-clause-ok : goal.returns-in-Answer-clause-ok
returns-in-Answer-clause-ok g c =
    subst (λ (i : Item). IfOk c.begin_answer.result (λ (p : Progress). Writes (Continues (Tells i) p) (g.W.Sink.taken c.args.writer.now) (g.W.Sink.taken c.begin_answer.new.writer)))
    (sym c.in-Answer.is) c.begin_answer.ensures.ok

pub returns-in-Answer-clause-progress : goal.returns-in-Answer-clause-progress
returns-in-Answer-clause-progress g c =
    let rows = row_count (reply_rows c.in-Answer.request c.in-Answer.reply) in
    subst (λ (i : Item). IfOk c.begin_answer.result (TakesFewer (calls_of i))) (sym c.in-Answer.is)
    (IfOk-weaker c.begin_answer.result _ _ (λ (p : Progress). fewer_than (1 + rows) (2 + rows) p (omega arith)) c.begin_answer.ensures.progress)

pub returns-in-Answer-clause-err : goal.returns-in-Answer-clause-err
returns-in-Answer-clause-err g c =
    subst (λ (i : Item). OnErr c.begin_answer.result (WritesFrontOf (IsTold i) (g.W.Sink.taken c.args.writer.now) (g.W.Sink.taken c.begin_answer.new.writer)))
    (sym c.in-Answer.is) c.begin_answer.ensures.err

pub returns-in-Rest-clause-ok : goal.returns-in-Rest-clause-ok
returns-in-Rest-clause-ok g c =
    subst (λ (i : Item). IfOk c.go_on.result (λ (p : Progress). Writes (Continues (Tells i) p) (g.W.Sink.taken c.args.writer.now) (g.W.Sink.taken c.go_on.new.writer)))
    (sym c.in-Rest.is) c.go_on.ensures.ok

pub returns-in-Rest-clause-progress : goal.returns-in-Rest-clause-progress
returns-in-Rest-clause-progress g c =
    let rows = rows_to_come c.in-Rest.unsent in
    subst (λ (i : Item). IfOk c.go_on.result (TakesFewer (calls_of i))) (sym c.in-Rest.is)
    (IfOk-weaker c.go_on.result _ _ (λ (p : Progress). fewer_than rows (1 + rows) p (omega arith)) c.go_on.ensures.progress)

pub returns-in-Rest-clause-err : goal.returns-in-Rest-clause-err
returns-in-Rest-clause-err g c =
    subst (λ (i : Item). OnErr c.go_on.result (WritesFrontOf (IsTold i) (g.W.Sink.taken c.args.writer.now) (g.W.Sink.taken c.go_on.new.writer)))
    (sym c.in-Rest.is) c.go_on.ensures.err
