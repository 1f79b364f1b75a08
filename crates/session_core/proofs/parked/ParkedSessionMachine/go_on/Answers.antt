use Rattle.std.proofs.Common.{◌≡◌, ◌++◌, List, ℕ, Some, sym, ap, ◌∙◌, subst, refl}
use Rattle.lines_core.specs.Serving.{traffic_of}
use Rattle.reply_core.specs.Pending.{TellsPending}
use Rattle.session_core.specs.Parking.{ParkedState, HasCome}
use Rattle.session_core.proofs.Resuming.{on_any, come_on}
use Rattle.session_core.specs.Stopping.{come_front}
use Rattle.session_core.proofs.parked.ParkedSessionMachine.go_on.Goals.{in-Some+in-Rows-1, in-Some+in-Listed-1, in-Some+in-Export+in-Some-this, in-Some+in-Export+in-None-1, in-None-1}
use Rattle.session_core.proofs.parked.ParkedSessionMachine.go_on.Goals as goal

pub returns-in_err-self-inside-clause-broken : goal.returns-in_err-self-inside-clause-broken
returns-in_err-self-inside-clause-broken g c =
    let err = c.in_err-self-inside.ensures.err in
    let owed : c.self.inside.owed ≡ Some c.in-Some.pending = sym c.take.ensures.value ∙ c.in-Some.is in
    on_any c.from_residual.result (λ desk admission left left' taken come.
    let come1 = subst (λ p. HasCome desk admission p (traffic_of left left' taken (g.W.Sink.taken c.args.writer.now))) (sym c.self.view_is) come in
    let ended = come_front desk admission _ left left' taken (g.W.Sink.taken c.args.writer.now) (g.W.Sink.taken c.go_on.new.writer) err.text come1
    (subst (λ p. TellsPending p err.text) (sym owed) err.is) err.wrote in
    record { last = ended.last; noted = ended.noted; ends = ended.ends })

pub returns-in_ok-self-inside-clause-went_on : goal.returns-in_ok-self-inside-clause-went_on
returns-in_ok-self-inside-clause-went_on g c = λ desk admission left left' taken come.
    let ok = c.in_ok-self-inside.ensures.ok in
    let owed : c.self.inside.owed ≡ Some c.in-Some.pending = sym c.take.ensures.value ∙ c.in-Some.is in
    let come1 = subst (λ p. HasCome desk admission p (traffic_of left left' taken (g.W.Sink.taken c.args.writer.now))) (sym c.self.view_is) come in
    let new : ParkedState g.row.K.Denot = record {
      feeding = c.self.inside.feeding;
      begun = c.self.inside.begun;
      user = c.self.inside.user;
      over = c.self.inside.over;
      unkept = c.self.inside.unkept;
      answered = c.self.inside.answered;
      moment = c.self.inside.moment;
      owed = c.in_ok-self-inside.field-0;
      note = c.self.inside.note;
    } in
    let same : c.match-self-branch.self ≡ new = elim c.match-self-branch.branch [
      | in-Some+in-Rows-1 w ↦ w.self-is
      | in-Some+in-Listed-1 w ↦ w.self-is
      | in-Some+in-Export+in-Some-this w ↦ w.self-is
      | in-Some+in-Export+in-None-1 w ↦ w.self-is
      | in-None-1 w ↦ w.self-is
    ] in
    subst (λ p. HasCome desk admission p (traffic_of left left' taken (g.W.Sink.taken c.go_on.new.writer))) (sym same)
    (come_on desk admission _ new ok.text left left' taken (g.W.Sink.taken c.args.writer.now) (g.W.Sink.taken c.go_on.new.writer) refl
    (λ rest told. subst (λ p. TellsPending p (ok.text ++ rest)) (sym owed) (ok.is rest told)) ok.wrote come1)
