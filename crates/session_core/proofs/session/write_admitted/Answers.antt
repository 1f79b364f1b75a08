use Rattle.base_core.proofs.Fronts.{front-first, text-broken, text-then}
use Rattle.session_core.specs.Admission.{welcome_text}
use Rattle.session_core.proofs.session.write_admitted.Goals as goal

pub returns-in_err-write_all : goal.returns-in_err-write_all
returns-in_err-write_all g c =
    let r = c.in_err-write_all.ensures in
    text-broken g.W.Sink.failed g.W.Sink.taken _ _ _ c.from_residual.result c.from_residual.ensures.0
    (r.0, front-first _ _ c.args.answer.now (welcome_text c.args.user.now) r.1)

pub returns : goal.returns
returns g c =
    text-then g.W.Sink.failed g.W.Sink.taken _ _ _ c.args.answer.now (welcome_text c.args.user.now) c.write_welcome.result c.in_ok-write_all.ensures.1 c.write_welcome.ensures
