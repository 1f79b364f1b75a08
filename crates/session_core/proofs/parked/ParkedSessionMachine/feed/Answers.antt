use Rattle.std.proofs.Common.{◌≡◌, Option, Some, None, Ok, Err, sym, ap, ◌∙◌, subst, refl, take, arith}
use Rattle.std.specs.Prelude.{Result}
use Rattle.std.proofs.lemmas.List.{take_all, length-take-le}
use Rattle.lines_core.specs.declared.line.TheConstants.{KEPT_BYTES}
use Rattle.desk_core.specs.Guarded.{DeskPass, DeskNote}
use Rattle.lines_core.specs.Serving.{AnswersPart, BreaksPart, traffic_of}
use Rattle.reply_core.specs.declared.pending.Pending.{Pending}
use Rattle.session_core.specs.declared.parked.Standing.{Standing}
use Rattle.session_core.specs.Session.{SessionState, AnswersSession, BeginsSession, GainsOf}
use Rattle.session_core.specs.Parking.{ParkedState, HasCome, Meets, GainsFor, pass_note}
use Rattle.session_core.proofs.Sessions.{part_kept, part_begins, part_free, broken_kept, broken_answers, same_pass}
use Rattle.session_core.proofs.Resuming.{either, if_ok, on_err, gains_for, here, come_more, come_broken, nothing_left}
use Rattle.session_core.proofs.parked.ParkedSessionMachine.feed.Goals as goal

pub shape_of-scratch : goal.shape_of-scratch
shape_of-scratch g c =
    let line = c.self.inside.feeding.line in
    let clean = c.feed_line-fed.ensures.kept in
    let front = sym (take_all KEPT_BYTES line clean.1) in
    let kept = either c.feed_line-fed.result c.feed_line-fed.ensures.fed c.feed_line-fed.ensures.broken
    (λ n f. part_kept line (take n c.args.piece.now) _ _ _ _ _ refl (f line clean.0 front))
    (λ f. broken_kept line c.args.piece.now _ _ _ _ refl (f line clean.0 front)) in
    sym kept.lent.buffer

pub shape_of-scratch-2 : goal.shape_of-scratch-2
shape_of-scratch-2 g c =
    let line = c.self.inside.feeding.line in
    let clean = c.feed_line-fed.ensures.kept in
    let front = sym (take_all KEPT_BYTES line clean.1) in
    let kept = either c.feed_line-fed.result c.feed_line-fed.ensures.fed c.feed_line-fed.ensures.broken
    (λ n f. part_kept line (take n c.args.piece.now) _ _ _ _ _ refl (f line clean.0 front))
    (λ f. broken_kept line c.args.piece.now _ _ _ _ refl (f line clean.0 front)) in
    sym kept.lent.tokens

pub returns-clause-own : goal.returns-clause-own
returns-clause-own g c =
    let line = c.self.inside.feeding.line in
    let clean = c.feed_line-fed.ensures.kept in
    let front = sym (take_all KEPT_BYTES line clean.1) in
    let kept = either c.feed_line-fed.result c.feed_line-fed.ensures.fed c.feed_line-fed.ensures.broken
    (λ n f. part_kept line (take n c.args.piece.now) _ _ _ _ _ refl (f line clean.0 front))
    (λ f. broken_kept line c.args.piece.now _ _ _ _ refl (f line clean.0 front)) in
    let now = c.pass-1.given.1 (sym kept.lent.pass) ∙ c.note-note.ensures.same in
    let same = same_pass _ _ _ kept.gained in
    let met = c.meet.ensures.watches.same.0 ∙ c.requires.pass in
    let own = same.0 ∙ met in
    ap (λ (p : DeskPass g.row.K.Denot). p.lock) now ∙ own

pub returns-clause-noted : goal.returns-clause-noted
returns-clause-noted g c =
    let line = c.self.inside.feeding.line in
    let clean = c.feed_line-fed.ensures.kept in
    let front = sym (take_all KEPT_BYTES line clean.1) in
    let kept = either c.feed_line-fed.result c.feed_line-fed.ensures.fed c.feed_line-fed.ensures.broken
    (λ n f. part_kept line (take n c.args.piece.now) _ _ _ _ _ refl (f line clean.0 front))
    (λ f. broken_kept line c.args.piece.now _ _ _ _ refl (f line clean.0 front)) in
    let now = c.pass-1.given.1 (sym kept.lent.pass) ∙ c.note-note.ensures.same in
    let same = same_pass _ _ _ kept.gained in
    let met = c.meet.ensures.watches.same.0 ∙ c.requires.pass in
    let own = same.0 ∙ met in
    let noted : Some c.note-note.result ≡ Some (pass_note c.args.desk.now c.pass-1.given.0)
    = ap (λ (n : DeskNote g.row.K.Denot). Some n) (c.note-note.ensures.told ∙ (λ i. record { lock = own i; seen = (sym now i).seen; mark = (sym now i).mark })) in
    noted

pub returns-clause-gained : goal.returns-clause-gained
returns-clause-gained g c =
    let line = c.self.inside.feeding.line in
    let clean = c.feed_line-fed.ensures.kept in
    let front = sym (take_all KEPT_BYTES line clean.1) in
    let kept = either c.feed_line-fed.result c.feed_line-fed.ensures.fed c.feed_line-fed.ensures.broken
    (λ n f. part_kept line (take n c.args.piece.now) _ _ _ _ _ refl (f line clean.0 front))
    (λ f. broken_kept line c.args.piece.now _ _ _ _ refl (f line clean.0 front)) in
    let now = c.pass-1.given.1 (sym kept.lent.pass) ∙ c.note-note.ensures.same in
    let told = c.standing-standing.ensures in
    subst (λ u. GainsFor u c.args.pass.now c.pass-1.given.0) (sym (ap (λ (s : Standing). s.user) told))
    (gains_for _ c.args.pass.now c.meet.new.pass c.pass-1.given.0 c.meet.ensures.watches (subst (GainsOf _ c.meet.new.pass) (sym now) kept.gained))

pub returns-clause-fed : goal.returns-clause-fed
returns-clause-fed g c =
    let line = c.self.inside.feeding.line in
    let clean = c.feed_line-fed.ensures.kept in
    let front = sym (take_all KEPT_BYTES line clean.1) in
    let kept = either c.feed_line-fed.result c.feed_line-fed.ensures.fed c.feed_line-fed.ensures.broken
    (λ n f. part_kept line (take n c.args.piece.now) _ _ _ _ _ refl (f line clean.0 front))
    (λ f. broken_kept line c.args.piece.now _ _ _ _ refl (f line clean.0 front)) in
    let now = c.pass-1.given.1 (sym kept.lent.pass) ∙ c.note-note.ensures.same in
    let same = same_pass _ _ _ kept.gained in
    let met = c.meet.ensures.watches.same.0 ∙ c.requires.pass in
    let own = same.0 ∙ met in
    let noted : Some c.note-note.result ≡ Some (pass_note c.args.desk.now c.pass-1.given.0)
    = ap (λ (n : DeskNote g.row.K.Denot). Some n) (c.note-note.ensures.told ∙ (λ i. record { lock = own i; seen = (sym now i).seen; mark = (sym now i).mark })) in
    let desk = c.args.desk.now in
    let admission = c.args.admission.now in
    let told = sym c.standing-standing.ensures in
    let begun = c.begun-2-1.given.1 (sym kept.lent.begun) in
    let owed = c.owed-2-1.given.1 (sym kept.lent.owed) in
    let free = ap (λ (p : ParkedState g.row.K.Denot). p.owed) c.self.view_is ∙ nothing_left _ c.requires.free in
    if_ok c.feed_line-fed.result c.feed_line-fed.ensures.fed c.feed_line-fed.ensures.unread c.feed_line-fed.ensures.took (λ n fed fits took left left' left'' taken come read.
    let come1 = subst (λ p. HasCome desk admission p (traffic_of left left' taken (g.W.Sink.taken c.args.writer.now))) (sym c.self.view_is) come in
    let so_far = here desk admission _ _ c.meet.new.pass c.pass-1.given.0 left left' left'' taken (g.W.Sink.taken c.args.writer.now) (g.W.Sink.taken c.feed_line-fed.new.writer) come1 free (subst (Meets c.meet.new.pass) c.take-seen.ensures.value c.meet.ensures.met) met noted in
    let rest = so_far.fed.now in
    let part = fed rest so_far.fed.cut.open_rest so_far.fed.kept_is in
    let said = part_begins rest (take n c.args.piece.now) _ _ _ _ _ refl part in
    let none = part_free rest (take n c.args.piece.now) _ _ _ _ _ refl part in
    come_more desk admission _ _ c.meet.new.pass c.pass-1.given.0 left left' left'' taken (g.W.Sink.taken c.args.writer.now) (g.W.Sink.taken c.feed_line-fed.new.writer)
    come1 free (subst (Meets c.meet.new.pass) c.take-seen.ensures.value c.meet.ensures.met) met noted (take n c.args.piece.now) read (omega (arith, fits, length-take-le n c.args.piece.now took))
    (subst (λ (z : SessionState g.row.K.Denot × SessionState g.row.K.Denot × Option Pending). AnswersPart (λ before l text behind. BeginsSession desk before l text z.2 behind) rest (take n c.args.piece.now) c.feed_line-fed.new.self.line z.0 z.1 (g.W.Sink.taken c.args.writer.now) (g.W.Sink.taken c.feed_line-fed.new.writer))
    (λ i. (
      record { admission = admission; begun = c.take-begun.ensures.value i; user = c.self.inside.user; over = c.self.inside.over; unkept = c.self.inside.unkept; answered = c.self.inside.answered; moment = c.self.inside.moment; pass = c.meet.new.pass },
      record { admission = kept.admission i; begun = sym begun i; user = (told i).user; over = (told i).over; unkept = (told i).unkept; answered = (told i).answered; moment = (told i).moment; pass = sym now i },
      sym owed i,
    )) said) (λ no_feed. owed ∙ none no_feed))

pub returns-clause-broken : goal.returns-clause-broken
returns-clause-broken g c =
    let line = c.self.inside.feeding.line in
    let clean = c.feed_line-fed.ensures.kept in
    let front = sym (take_all KEPT_BYTES line clean.1) in
    let kept = either c.feed_line-fed.result c.feed_line-fed.ensures.fed c.feed_line-fed.ensures.broken
    (λ n f. part_kept line (take n c.args.piece.now) _ _ _ _ _ refl (f line clean.0 front))
    (λ f. broken_kept line c.args.piece.now _ _ _ _ refl (f line clean.0 front)) in
    let now = c.pass-1.given.1 (sym kept.lent.pass) ∙ c.note-note.ensures.same in
    let same = same_pass _ _ _ kept.gained in
    let met = c.meet.ensures.watches.same.0 ∙ c.requires.pass in
    let own = same.0 ∙ met in
    let noted : Some c.note-note.result ≡ Some (pass_note c.args.desk.now c.pass-1.given.0)
    = ap (λ (n : DeskNote g.row.K.Denot). Some n) (c.note-note.ensures.told ∙ (λ i. record { lock = own i; seen = (sym now i).seen; mark = (sym now i).mark })) in
    let desk = c.args.desk.now in
    let admission = c.args.admission.now in
    let told = sym c.standing-standing.ensures in
    let begun = c.begun-2-1.given.1 (sym kept.lent.begun) in
    let free = ap (λ (p : ParkedState g.row.K.Denot). p.owed) c.self.view_is ∙ nothing_left _ c.requires.free in
    on_err c.feed_line-fed.result c.feed_line-fed.ensures.broken (λ broken left left' left'' taken come read.
    let come1 = subst (λ p. HasCome desk admission p (traffic_of left left' taken (g.W.Sink.taken c.args.writer.now))) (sym c.self.view_is) come in
    let so_far = here desk admission _ _ c.meet.new.pass c.pass-1.given.0 left left' left'' taken (g.W.Sink.taken c.args.writer.now) (g.W.Sink.taken c.feed_line-fed.new.writer) come1 free (subst (Meets c.meet.new.pass) c.take-seen.ensures.value c.meet.ensures.met) met noted in
    let rest = so_far.fed.now in
    let run = broken_answers rest c.args.piece.now _ _ _ _ refl (broken rest so_far.fed.cut.open_rest so_far.fed.kept_is) in
    come_broken desk admission _ _ c.meet.new.pass c.pass-1.given.0 left left' left'' taken (g.W.Sink.taken c.args.writer.now) (g.W.Sink.taken c.feed_line-fed.new.writer)
    come1 free (subst (Meets c.meet.new.pass) c.take-seen.ensures.value c.meet.ensures.met) met noted c.args.piece.now read
    (subst (λ (z : SessionState g.row.K.Denot × SessionState g.row.K.Denot). BreaksPart (AnswersSession desk) rest c.args.piece.now z.0 z.1 (g.W.Sink.taken c.args.writer.now) (g.W.Sink.taken c.feed_line-fed.new.writer))
    (λ i. (
      record { admission = admission; begun = c.take-begun.ensures.value i; user = c.self.inside.user; over = c.self.inside.over; unkept = c.self.inside.unkept; answered = c.self.inside.answered; moment = c.self.inside.moment; pass = c.meet.new.pass },
      record { admission = kept.admission i; begun = sym begun i; user = (told i).user; over = (told i).over; unkept = (told i).unkept; answered = (told i).answered; moment = (told i).moment; pass = sym now i },
    )) run))
