use Rattle.base_core.proofs.Fronts.{write-text}
use Rattle.session_core.specs.declared.reception.Reception.TheVariants as receptions
use Rattle.std.proofs.Common.{subst, sym}
use Rattle.session_core.specs.Admission.{reception_text}
use Rattle.session_core.specs.Session.{AnswersSession, received, progress_of}
use Rattle.session_core.proofs.answering.Session.greet.Goals as goal

pub returns-in-Welcomed-clause-text : goal.returns-in-Welcomed-clause-text
returns-in-Welcomed-clause-text g c =
    let is = rw c.in-Welcomed.is at c.received.ensures in
    write-text g.W.Sink.failed g.W.Sink.taken _ _ _ _ c.write_admitted.result
    (received (receptions.Welcomed c.in-Welcomed.user c.in-Welcomed.answer) c.requires.first.0 c.requires.first.1 is)
    (rw c.as_slice.ensures.value at c.write_admitted.ensures)

pub returns-in-Challenged-clause-text : goal.returns-in-Challenged-clause-text
returns-in-Challenged-clause-text g c =
    let is = rw c.in-Challenged.is at c.received.ensures in
    let old = progress_of c.args.self.now in
    let answers = received (receptions.Challenged c.in-Challenged.begun) c.requires.first.0 c.requires.first.1 is in
    write-text g.W.Sink.failed g.W.Sink.taken _ _ _ _ c.write_challenge-written.result
    (subst (λ b. AnswersSession c.args.self.now.desk.now old c.args.line.now (reception_text (receptions.Challenged c.in-Challenged.begun)) (record old { begun = b })) (sym c.replace.ensures.after) answers)
    (rw c.server_first.ensures at c.write_challenge-written.ensures)

pub returns-in-Faulty-clause-text : goal.returns-in-Faulty-clause-text
returns-in-Faulty-clause-text g c =
    let is = rw c.in-Faulty.is at c.received.ensures in
    write-text g.W.Sink.failed g.W.Sink.taken _ _ _ _ c.write_fault.result
    (received (receptions.Faulty c.in-Faulty.code c.in-Faulty.offset) c.requires.first.0 c.requires.first.1 is) c.write_fault.ensures

pub returns-in-Refused-clause-text : goal.returns-in-Refused-clause-text
returns-in-Refused-clause-text g c =
    let is = rw c.in-Refused.is at c.received.ensures in
    write-text g.W.Sink.failed g.W.Sink.taken _ _ _ _ c.write_all.result
    (received receptions.Refused c.requires.first.0 c.requires.first.1 is) c.write_all.ensures

pub returns-in-Unread-clause-text : goal.returns-in-Unread-clause-text
returns-in-Unread-clause-text g c =
    let is = rw c.in-Unread.is at c.received.ensures in
    write-text g.W.Sink.failed g.W.Sink.taken _ _ _ _ c.write_unread.result
    (received receptions.Unread c.requires.first.0 c.requires.first.1 is) c.write_unread.ensures
