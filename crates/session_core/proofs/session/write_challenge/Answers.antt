use Rattle.std.specs.Prelude.{codes}
use Rattle.base_core.proofs.Fronts.{front-first, text-broken, text-then}
use Rattle.session_core.proofs.session.write_challenge.Goals as goal

pub returns-in_err-write_all : goal.returns-in_err-write_all
returns-in_err-write_all g c =
    let r = c.in_err-write_all.ensures in
    text-broken g.W.Sink.failed g.W.Sink.taken _ _ _ c.from_residual.result c.from_residual.ensures.0
    (r.0, front-first _ _ c.args.message.now (codes "\n") r.1)

pub returns : goal.returns
returns g c =
    text-then g.W.Sink.failed g.W.Sink.taken _ _ _ c.args.message.now (codes "\n") c.write_all-2.result c.in_ok-write_all.ensures.1 c.write_all-2.ensures
