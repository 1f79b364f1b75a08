use Rattle.std.proofs.Common.{Option, None, ◌++◌, arith, refl, sym, subst}
use Rattle.std.proofs.lemmas.Result.{IfOk-weaker, on_err_weaker}
use Rattle.base_core.specs.declared.value.Moment.{Moment}
use Rattle.base_core.proofs.Fronts.{Writes-map, WritesFrontOf-map, write-ok, write-err, write-text}
use Rattle.lexer_core.specs.Lexing.{long_line}
use Rattle.reader_core.specs.Language.{IsReadFault, lexical}
use Rattle.reply_core.specs.Texts.{unread_text}
use Rattle.session_core.specs.Session.{AnswersNoted, AnswersUser, faulty, said, unread}
use Rattle.session_core.proofs.Telling.{told_ok, told_err, whole_ok, whole_err}
use Rattle.session_core.proofs.line.begin_line.Goals as goal

pub returns-then-line-gt-MAX_LINE-clause-ok : goal.returns-then-line-gt-MAX_LINE-clause-ok
returns-then-line-gt-MAX_LINE-clause-ok g c =
    let w = c.write_fault-written.result in
    let says = AnswersNoted c.args.desk.now c.args.user c.args.line.now c.args.pass.now c.args.moment.now c.args.pass.now c.args.moment.now in
    told_ok _ c.whole.result c.tell.result c.tell.ensures
    (whole_ok says _ _ w c.whole.result c.whole.ensures
    (write-ok g.W.Sink.failed g.W.Sink.taken _ _ _ w (write-text g.W.Sink.failed g.W.Sink.taken _ _ says _ w (None, faulty (lexical (long_line c.if-line-gt-MAX_LINE.true)), refl) c.write_fault-written.ensures)))

pub returns-then-line-gt-MAX_LINE-clause-err : goal.returns-then-line-gt-MAX_LINE-clause-err
returns-then-line-gt-MAX_LINE-clause-err g c =
    let w = c.write_fault-written.result in
    told_err _ c.whole.result c.tell.result c.tell.ensures
    (whole_err _ w c.whole.result c.whole.ensures
    (write-err g.W.Sink.failed g.W.Sink.taken _ _ _ w (write-text g.W.Sink.failed g.W.Sink.taken _ _ _ _ w (None, faulty (lexical (long_line c.if-line-gt-MAX_LINE.true)), refl) c.write_fault-written.ensures)))

pub returns-in-Ok-execute-clause-ok : goal.returns-in-Ok-execute-clause-ok
returns-in-Ok-execute-clause-ok g c =
    let w = c.begin_reply-written.result in
    let at = c.moment-at.result in
    told_ok _ w c.tell-in-Ok.result c.tell-in-Ok.ensures
    (IfOk-weaker w _ _ (λ pending begun. Writes-map _ _ _ _ (λ text begins rest t. (
      at,
      subst (λ (m : Option Moment). AnswersUser c.args.desk.now c.args.user c.args.line.now c.args.pass.now (text ++ rest) m c.execute.new.pass) (sym c.moment-at.ensures)
          (said c.in-Ok.statement c.in-Ok-execute.reply c.in-Ok.ensures.spelled c.in-Ok-execute.ensures.same c.in-Ok-execute.ensures.answered (begins rest t)),
      c.last_moment.ensures,
    )) begun) c.begin_reply-written.ensures.ok)

pub returns-in-Ok-execute-clause-err : goal.returns-in-Ok-execute-clause-err
returns-in-Ok-execute-clause-err g c =
    let w = c.begin_reply-written.result in
    let at = c.moment-at.result in
    told_err _ w c.tell-in-Ok.result c.tell-in-Ok.ensures
    (on_err_weaker w (WritesFrontOf-map _ _ _ _ (λ text t. (
      at,
      subst (λ (m : Option Moment). AnswersUser c.args.desk.now c.args.user c.args.line.now c.args.pass.now text m c.execute.new.pass) (sym c.moment-at.ensures)
          (said c.in-Ok.statement c.in-Ok-execute.reply c.in-Ok.ensures.spelled c.in-Ok-execute.ensures.same c.in-Ok-execute.ensures.answered t),
      c.last_moment.ensures,
    ))) c.begin_reply-written.ensures.err)

pub returns-in-Err-At-clause-ok : goal.returns-in-Err-At-clause-ok
returns-in-Err-At-clause-ok g c =
    let w = c.write_fault.result in
    let says = AnswersNoted c.args.desk.now c.args.user c.args.line.now c.args.pass.now c.args.moment.now c.args.pass.now c.args.moment.now in
    let fault : IsReadFault c.args.line.now c.in-Err-At.code c.in-Err-At.offset = rw c.in-Err-At.field-0-is at c.in-Err-At.ensures.faulty in
    told_ok _ c.whole-in-Err-At.result c.tell-in-Err-At.result c.tell-in-Err-At.ensures
    (whole_ok says _ _ w c.whole-in-Err-At.result c.whole-in-Err-At.ensures
    (write-ok g.W.Sink.failed g.W.Sink.taken _ _ _ w (write-text g.W.Sink.failed g.W.Sink.taken _ _ says _ w (None, faulty fault, refl) (rw c.in-Err-At.field-0-is at c.write_fault.ensures))))

pub returns-in-Err-At-clause-err : goal.returns-in-Err-At-clause-err
returns-in-Err-At-clause-err g c =
    let w = c.write_fault.result in
    let fault : IsReadFault c.args.line.now c.in-Err-At.code c.in-Err-At.offset = rw c.in-Err-At.field-0-is at c.in-Err-At.ensures.faulty in
    told_err _ c.whole-in-Err-At.result c.tell-in-Err-At.result c.tell-in-Err-At.ensures
    (whole_err _ w c.whole-in-Err-At.result c.whole-in-Err-At.ensures
    (write-err g.W.Sink.failed g.W.Sink.taken _ _ _ w (write-text g.W.Sink.failed g.W.Sink.taken _ _ _ _ w (None, faulty fault, refl) (rw c.in-Err-At.field-0-is at c.write_fault.ensures))))

pub returns-in-Err-NoMemory-clause-ok : goal.returns-in-Err-NoMemory-clause-ok
returns-in-Err-NoMemory-clause-ok g c =
    let w = c.write_unread.result in
    let says = AnswersNoted c.args.desk.now c.args.user c.args.line.now c.args.pass.now c.args.moment.now c.args.pass.now c.args.moment.now in
    let short = c.if-line-gt-MAX_LINE.false in
    told_ok _ c.whole-in-Err-NoMemory.result c.tell-in-Err-NoMemory.result c.tell-in-Err-NoMemory.ensures
    (whole_ok says _ _ w c.whole-in-Err-NoMemory.result c.whole-in-Err-NoMemory.ensures
    (write-ok g.W.Sink.failed g.W.Sink.taken _ _ _ w (write-text g.W.Sink.failed g.W.Sink.taken _ _ says unread_text w (None, unread (omega (arith, short)), refl) c.write_unread.ensures)))

pub returns-in-Err-NoMemory-clause-err : goal.returns-in-Err-NoMemory-clause-err
returns-in-Err-NoMemory-clause-err g c =
    let w = c.write_unread.result in
    let short = c.if-line-gt-MAX_LINE.false in
    told_err _ c.whole-in-Err-NoMemory.result c.tell-in-Err-NoMemory.result c.tell-in-Err-NoMemory.ensures
    (whole_err _ w c.whole-in-Err-NoMemory.result c.whole-in-Err-NoMemory.ensures
    (write-err g.W.Sink.failed g.W.Sink.taken _ _ _ w (write-text g.W.Sink.failed g.W.Sink.taken _ _ _ unread_text w (None, unread (omega (arith, short)), refl) c.write_unread.ensures)))
