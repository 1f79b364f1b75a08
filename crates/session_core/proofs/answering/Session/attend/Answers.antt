use Rattle.std.proofs.Common.{ℕ, List, Option, [], ◌++◌, true, subst, sym}
use Rattle.std.proofs.KnownBytes.{Appends-nil}
use Rattle.std.specs.Io.KnownBytes.{Appends}
use Rattle.base_core.specs.declared.value.Moment.{Moment}
use Rattle.base_core.proofs.Fronts.{Writes-map, WritesFrontOf-map, write-broken, write-map}
use Rattle.session_core.specs.Session.{SessionState, AnswersSession, AnswersNoted, progress_of, served, withheld}
use Rattle.session_core.proofs.Telling.{Begun, ok_value, err_holds, whole_begun, begun_may}
use Rattle.session_core.proofs.answering.Session.attend.Goals as goal

pub returns-in_err-begun-clause-text : goal.returns-in_err-begun-clause-text
returns-in_err-begun-clause-text g c =
    let s = c.args.self.now in
    let says = λ (z : ℕ × Option Moment) (t : List ℕ). AnswersSession s.desk.now (progress_of s) c.args.line.now t (record (progress_of s) { answered = z.0; moment = z.1; pass = c.begin_line.new.pass }) in
    write-broken g.W.Sink.failed g.W.Sink.taken _ _ _ c.from_residual.result c.from_residual.ensures.0 (
      c.in_err-begun.ensures.failed,
      WritesFrontOf-map _ _ _ _ (λ text noted.
          subst (λ p. Begun (says (c.saturating_add-self.result, c.begin_line.new.moment)) p text) (sym c.requires.free) (whole_begun (says (c.saturating_add-self.result, c.begin_line.new.moment)) text
          (subst (λ z. says z text) (λ i. (sym c.saturating_add-self.ensures i, sym noted.2 i)) (served {at = noted.0} c.args.user c.requires.later.0 c.requires.later.1 noted.1)))) c.in_err-begun.ensures.err,
    )

pub returns-then-not-self-clause-text : goal.returns-then-not-self-clause-text
returns-then-not-self-clause-text g c =
    let s = c.args.self.now in
    let says = λ (z : ℕ × Option Moment) (t : List ℕ). AnswersSession s.desk.now (progress_of s) c.args.line.now t (record (progress_of s) { answered = z.0; moment = z.1; pass = c.begin_line.new.pass }) in
    let noted = AnswersNoted s.desk.now c.args.user c.args.line.now s.pass.now s.moment c.begin_line.new.pass c.begin_line.new.moment in
    let begun = ok_value _ c.in_ok-begun.begun c.in-Ok.pending c.in-Ok.is c.in_ok-begun.ensures.ok in
    write-map g.W.Sink.failed g.W.Sink.taken _ _ _ _ c.write_rest.result
    (λ text n. subst (λ p. Begun (says (c.saturating_add-self.result, c.begin_line.new.moment)) p text) (sym c.requires.free) (whole_begun (says (c.saturating_add-self.result, c.begin_line.new.moment)) text
    (subst (λ z. says z text) (λ i. (sym c.saturating_add-self.ensures i, sym n.2 i)) (served {at = n.0} c.args.user c.requires.later.0 c.requires.later.1 n.1))))
    (begun_may noted c.in-Ok.pending _ _ _ begun g.W.Sink.failed c.write_rest.new.writer c.write_rest.result c.write_rest.ensures)

pub returns-else-not-self-clause-text : goal.returns-else-not-self-clause-text
returns-else-not-self-clause-text g c =
    let s = c.args.self.now in
    let says = λ (z : ℕ × Option Moment) (t : List ℕ). AnswersSession s.desk.now (progress_of s) c.args.line.now t (record (progress_of s) { answered = z.0; moment = z.1; pass = c.begin_line.new.pass }) in
    let begun = ok_value _ c.in_ok-begun.begun c.in-Ok.pending c.in-Ok.is c.in_ok-begun.ensures.ok in (
      c.in_ok-begun.ensures.failed,
      Writes-map _ _ _ _ (λ text begins rest told.
          let n = begins rest told in
          subst (λ z. says z (text ++ rest)) (λ i. (sym c.saturating_add-self.ensures i, sym n.2 i)) (served {at = n.0} c.args.user c.requires.later.0 c.requires.later.1 n.1)) begun,
    )

pub returns-in-Err-clause-text : goal.returns-in-Err-clause-text
returns-in-Err-clause-text g c =
    let s = c.args.self.now in
    let says = λ (z : ℕ × Option Moment) (t : List ℕ). AnswersSession s.desk.now (progress_of s) c.args.line.now t (record (progress_of s) { over = true; unkept = true; answered = z.0; moment = z.1; pass = c.begin_line.new.pass }) in
    let h = err_holds _ c.in_ok-begun.begun c.in-Err.field-0 c.in-Err.is c.in_ok-begun.ensures.withheld in
    let same = err_holds _ c.in_ok-begun.begun c.in-Err.field-0 c.in-Err.is c.in_ok-begun.ensures.unnoted in (
      c.in_ok-begun.ensures.failed,
      record {
        text = [];
        is = subst (λ p. Begun (says (c.saturating_add-self.result, c.begin_line.new.moment)) p []) (sym c.requires.free) (whole_begun (says (c.saturating_add-self.result, c.begin_line.new.moment)) []
            (subst (λ z. says z []) (λ i. (sym c.saturating_add-self.ensures i, sym same i)) (withheld c.args.user c.requires.later.0 c.requires.later.1 h.1)));
        wrote = subst (λ w. Appends (g.W.Sink.taken c.args.writer.now) (g.W.Sink.taken w) []) (sym h.0) (Appends-nil _);
      },
    )
