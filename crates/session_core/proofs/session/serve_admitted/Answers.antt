use Rattle.std.proofs.Common.{◌≡◌, true, false, ap, subst, sym, refl}
use Rattle.std.specs.Prelude.{◌↔◌, IsErrOf}
use Rattle.turnstile.specs.Passes.{IsSamePass}
use Rattle.lines_core.specs.Serving.{traffic_of}
use Rattle.lines_core.specs.declared.serving.SessionFault.TheVariants as session_faults
use Rattle.session_core.specs.declared.session_end.SessionEnd.TheVariants as session_ends
use Rattle.session_core.specs.declared.summary.Summary.{Summary}
use Rattle.session_core.specs.Session.{GainsOf, progress_of, EndsBy}
use Rattle.lines_core.proofs.Over.{over-or-broken}
use Rattle.session_core.proofs.Ending.{ends-by, ends-read, ends-write}
use Rattle.session_core.proofs.Sessions.{session_ends, same_pass}
use Rattle.session_core.proofs.session.serve_admitted.Goals as goal

pub returns-clause-same : goal.returns-clause-same
returns-clause-same g c =
    let e = session_ends c.args.admission.now c.args.pass.now c.serve-served.result _ c.serve-served.new.server _ c.serve-served.ensures.ends refl refl refl in
    let now = c.pass-1.given.1 (sym e.1.pass) in
    subst (λ z. IsSamePass c.args.pass.now z) (sym now) (same_pass _ _ _ e.2)

pub returns-clause-read : goal.returns-clause-read
returns-clause-read g c =
    let y = c.serve-served.new.server in
    let served = c.serve-served.result in
    let e = session_ends c.args.admission.now c.args.pass.now served _ y _ c.serve-served.ensures.ends refl refl refl in
    let how = λ (unkept : y.unkept ≡ true). over-or-broken served (g.W.Sink.failed c.serve-served.new.writer) false y.over c.serve-served.ensures.write.1 c.serve-served.ensures.not_over refl (e.3 unkept) in
    let same = ends-read y.unkept served how in
    let read = c.serve-served.ensures.read in
    let ended = ap (λ (s : Summary). s.ended) c.summary.ensures in
    subst (λ z. IsErrOf z (session_ends.Session session_faults.Read) ↔ (g.S.Source.failed c.serve-served.new.reader ≡ true)) (sym ended)
    (λ is. read.0 (same.0 is), λ failed. same.1 (read.1 failed))

pub returns-clause-write : goal.returns-clause-write
returns-clause-write g c =
    let y = c.serve-served.new.server in
    let served = c.serve-served.result in
    let same = ends-write y.unkept served in
    let write = c.serve-served.ensures.write in
    let ended = ap (λ (s : Summary). s.ended) c.summary.ensures in
    subst (λ z. IsErrOf z (session_ends.Session session_faults.Write) ↔ ((g.W.Sink.failed c.serve-served.new.writer ≡ true) × ¬ IsErrOf z session_ends.Journal)) (sym ended)
    (λ is. (write.0 (same.0 is).0, (same.0 is).1), λ failed. same.1 (write.1 failed.0, failed.1))

pub returns-clause-ends : goal.returns-clause-ends
returns-clause-ends g c =
    let y = c.serve-served.new.server in
    let served = c.serve-served.result in
    let e = session_ends c.args.admission.now c.args.pass.now served _ y _ c.serve-served.ensures.ends refl refl refl in
    let now = c.pass-1.given.1 (sym e.1.pass) in
    let last = progress_of y in
    let how = λ (unkept : y.unkept ≡ true). over-or-broken served (g.W.Sink.failed c.serve-served.new.writer) false y.over c.serve-served.ensures.write.1 c.serve-served.ensures.not_over refl (e.3 unkept) in
    let traffic = traffic_of (g.S.Source.left c.args.reader.now) (g.S.Source.left c.serve-served.new.reader) (g.W.Sink.taken c.args.writer.now) (g.W.Sink.taken c.serve-served.new.writer) in
    let by = ends-by c.args.desk.now c.args.admission.now last c.args.pass.now c.pass-1.given.0 traffic y.unkept served refl
    (record { ends = e.0; pass_is = sym now; gained = subst (λ z. GainsOf y.user c.args.pass.now z) (sym now) e.2 }) how in
    let told = c.summary.ensures in
    record {
      last = last;
      user_is = ap (λ (s : Summary). s.user) told;
      lines_are = ap (λ (s : Summary). s.lines) told;
      moment_is = ap (λ (s : Summary). s.moment) told;
      ends = subst (λ z. EndsBy c.args.desk.now c.args.admission.now z last c.args.pass.now c.pass-1.given.0 traffic) (sym (ap (λ (s : Summary). s.ended) told)) by;
    }
