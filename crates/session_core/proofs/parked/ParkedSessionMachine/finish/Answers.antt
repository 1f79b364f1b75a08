use Rattle.std.proofs.Common.{◌≡◌, ◌<◌, Option, Some, length, sym, ap, ◌∙◌, subst, refl, arith, ⊎_elim}
use Rattle.std.proofs.lemmas.Bool.{cases_lt}
use Rattle.base_core.specs.Streams.{Writes, WritesFrontOf}
use Rattle.lines_core.specs.Serving.{traffic_of}
use Rattle.desk_core.specs.Guarded.{DeskPass, DeskNote}
use Rattle.reply_core.specs.Pending.{TellsPending}
use Rattle.reply_core.specs.declared.pending.Pending.{Pending}
use Rattle.session_core.specs.declared.parked.Standing.{Standing}
use Rattle.session_core.specs.Session.{SessionState, BeginsSession, GainsOf, progress_of}
use Rattle.session_core.specs.Parking.{ParkedState, HasCome, Meets, GainsFor, pass_note}
use Rattle.session_core.proofs.Sessions.{line_kept, kept_same, same_pass}
use Rattle.session_core.proofs.Resuming.{on_any, gains_for, ended_last, ended_nothing, ended_broken, nothing_left}
use Rattle.session_core.proofs.parked.ParkedSessionMachine.finish.Goals as goal

pub returns-in_err-finished-clause-gained : goal.returns-in_err-finished-clause-gained
returns-in_err-finished-clause-gained g c =
    let line = c.self.inside.feeding.line in
    let broken = c.in_err-finished.ensures.broken in
    let kept = line_kept _ _ line broken.1.text refl broken.1.is in
    let now = c.pass-1.given.1 (sym kept.lent.pass) ∙ c.note-note.ensures.same in
    let same = same_pass _ _ _ kept.gained in
    let met = c.meet.ensures.watches.same.0 ∙ c.requires.pass in
    let own = same.0 ∙ met in
    let told = c.standing-standing.ensures in
    subst (λ u. GainsFor u c.args.pass.now c.pass-1.given.0) (sym (ap (λ (s : Standing). s.user) told))
    (gains_for _ c.args.pass.now c.meet.new.pass c.pass-1.given.0 c.meet.ensures.watches (subst (GainsOf _ c.meet.new.pass) (sym now) kept.gained))

pub returns-in_err-finished-clause-broken : goal.returns-in_err-finished-clause-broken
returns-in_err-finished-clause-broken g c =
    let line = c.self.inside.feeding.line in
    let broken = c.in_err-finished.ensures.broken in
    let kept = line_kept _ _ line broken.1.text refl broken.1.is in
    let now = c.pass-1.given.1 (sym kept.lent.pass) ∙ c.note-note.ensures.same in
    let same = same_pass _ _ _ kept.gained in
    let met = c.meet.ensures.watches.same.0 ∙ c.requires.pass in
    let own = same.0 ∙ met in
    let desk = c.args.desk.now in
    let admission = c.args.admission.now in
    let told = sym c.standing-standing.ensures in
    let begun = c.begun-2-1.given.1 (sym kept.lent.begun) in
    let owed = c.owed-2-1.given.1 (sym kept.lent.owed) in
    let free = ap (λ (p : ParkedState g.row.K.Denot). p.owed) c.self.view_is ∙ nothing_left _ c.requires.free in
    let noted : Some c.note-note.result ≡ Some (pass_note desk c.pass-1.given.0)
    = ap (λ (n : DeskNote g.row.K.Denot). Some n) (c.note-note.ensures.told ∙ (λ i. record { lock = own i; seen = (sym now i).seen; mark = (sym now i).mark })) in
    on_any c.from_residual.result (λ left left' left'' taken come read end.
    let come1 = subst (λ p. HasCome desk admission p (traffic_of left left' taken (g.W.Sink.taken c.args.writer.now))) (sym c.self.view_is) come in
    ended_broken desk admission _ _ c.meet.new.pass c.pass-1.given.0 left left' left'' taken (g.W.Sink.taken c.args.writer.now) (g.W.Sink.taken c.finish-finished.new.writer)
    come1 free (subst (Meets c.meet.new.pass) c.take.ensures.value c.meet.ensures.met) met noted read end broken.0
    (record {
      text = broken.1.text;
      is = subst (λ (z : SessionState g.row.K.Denot × SessionState g.row.K.Denot × Option Pending). BeginsSession desk z.0 line broken.1.text z.2 z.1)
          (λ i. (
            record { admission = admission; begun = c.take-begun.ensures.value i; user = c.self.inside.user; over = c.self.inside.over; unkept = c.self.inside.unkept; answered = c.self.inside.answered; moment = c.self.inside.moment; pass = c.meet.new.pass },
            record { admission = kept.admission i; begun = sym begun i; user = (told i).user; over = (told i).over; unkept = (told i).unkept; answered = (told i).answered; moment = (told i).moment; pass = sym now i },
            sym owed i,
          )) (broken.1.is.begins refl);
      wrote = broken.1.wrote;
    }))

pub returns-clause-gained : goal.returns-clause-gained
returns-clause-gained g c =
    let line = c.self.inside.feeding.line in
    let kept = ⊎_elim (λ some. let w = c.in_ok-finished.ensures.last some in line_kept _ _ line w.text refl w.is)
    (λ none. kept_same _ _ (c.in_ok-finished.ensures.empty (omega (arith, none))).0.0) (cases_lt 0 (length line)) in
    let now = c.pass-1.given.1 (sym kept.lent.pass) ∙ c.note-note.ensures.same in
    let same = same_pass _ _ _ kept.gained in
    let met = c.meet.ensures.watches.same.0 ∙ c.requires.pass in
    let own = same.0 ∙ met in
    let told = c.standing-standing.ensures in
    subst (λ u. GainsFor u c.args.pass.now c.pass-1.given.0) (sym (ap (λ (s : Standing). s.user) told))
    (gains_for _ c.args.pass.now c.meet.new.pass c.pass-1.given.0 c.meet.ensures.watches (subst (GainsOf _ c.meet.new.pass) (sym now) kept.gained))

pub returns-clause-ended : goal.returns-clause-ended
returns-clause-ended g c = λ left left' left'' taken later rest come read end tells wrote.
    let line = c.self.inside.feeding.line in
    let kept = ⊎_elim (λ some. let w = c.in_ok-finished.ensures.last some in line_kept _ _ line w.text refl w.is)
    (λ none. kept_same _ _ (c.in_ok-finished.ensures.empty (omega (arith, none))).0.0) (cases_lt 0 (length line)) in
    let now = c.pass-1.given.1 (sym kept.lent.pass) ∙ c.note-note.ensures.same in
    let same = same_pass _ _ _ kept.gained in
    let met = c.meet.ensures.watches.same.0 ∙ c.requires.pass in
    let own = same.0 ∙ met in
    let desk = c.args.desk.now in
    let admission = c.args.admission.now in
    let told = sym c.standing-standing.ensures in
    let begun = c.begun-2-1.given.1 (sym kept.lent.begun) in
    let owed = c.owed-2-1.given.1 (sym kept.lent.owed) in
    let free = ap (λ (p : ParkedState g.row.K.Denot). p.owed) c.self.view_is ∙ nothing_left _ c.requires.free in
    let noted : Some c.note-note.result ≡ Some (pass_note desk c.pass-1.given.0)
    = ap (λ (n : DeskNote g.row.K.Denot). Some n) (c.note-note.ensures.told ∙ (λ i. record { lock = own i; seen = (sym now i).seen; mark = (sym now i).mark })) in
    let come1 = subst (λ p. HasCome desk admission p (traffic_of left left' taken (g.W.Sink.taken c.args.writer.now))) (sym c.self.view_is) come in
    let unended = ap (λ (p : ParkedState g.row.K.Denot). p.over) c.self.view_is ∙ c.requires.open in
    ⊎_elim (λ some.
    let w = c.in_ok-finished.ensures.last some in
    ended_last desk admission _ _ c.meet.new.pass c.pass-1.given.0 left left' left'' taken (g.W.Sink.taken c.args.writer.now) (g.W.Sink.taken c.finish-finished.new.writer)
    come1 free (subst (Meets c.meet.new.pass) c.take.ensures.value c.meet.ensures.met) met noted read end rest later tells wrote unended some
    (record {
      text = w.text;
      is = subst (λ (z : SessionState g.row.K.Denot × SessionState g.row.K.Denot × Option Pending). BeginsSession desk z.0 line w.text z.2 z.1)
          (λ i. (
            record { admission = admission; begun = c.take-begun.ensures.value i; user = c.self.inside.user; over = c.self.inside.over; unkept = c.self.inside.unkept; answered = c.self.inside.answered; moment = c.self.inside.moment; pass = c.meet.new.pass },
            record { admission = kept.admission i; begun = sym begun i; user = (told i).user; over = (told i).over; unkept = (told i).unkept; answered = (told i).answered; moment = (told i).moment; pass = sym now i },
            sym owed i,
          )) (w.is.begins refl);
      wrote = w.wrote;
    }))
    (λ none.
    let empty : length line ≡ 0 = omega (arith, none) in
    let w = (c.in_ok-finished.ensures.empty empty).0 in
    let nothing = ap (λ s. s.owed.now) w.0 in
    ended_nothing desk admission _ _ c.meet.new.pass c.pass-1.given.0 left left' left'' taken (g.W.Sink.taken c.args.writer.now) (g.W.Sink.taken c.finish-finished.new.writer)
    come1 free (subst (Meets c.meet.new.pass) c.take.ensures.value c.meet.ensures.met) met noted read end rest later (subst (λ p. TellsPending p rest) (owed ∙ nothing) tells) wrote unended empty
    (subst (λ (z : SessionState g.row.K.Denot × SessionState g.row.K.Denot). z.1 ≡ z.0)
    (λ i. (
      record { admission = admission; begun = c.take-begun.ensures.value i; user = c.self.inside.user; over = c.self.inside.over; unkept = c.self.inside.unkept; answered = c.self.inside.answered; moment = c.self.inside.moment; pass = c.meet.new.pass },
      record { admission = kept.admission i; begun = sym begun i; user = (told i).user; over = (told i).over; unkept = (told i).unkept; answered = (told i).answered; moment = (told i).moment; pass = sym now i },
    )) (ap progress_of w.0)) w.1)
    (cases_lt 0 (length line))
