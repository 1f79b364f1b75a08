use Rattle.base_core.proofs.Fronts.{front-first, text-broken, text-then}
use Rattle.sending_core.specs.Welcome.{login_end, session_begin, welcome}
use Rattle.sending_core.proofs.welcome.write_welcome.Goals as goal

pub returns-in_err-write_login_end : goal.returns-in_err-write_login_end
returns-in_err-write_login_end g c =
    let r = c.in_err-write_login_end.ensures in
    text-broken g.W.Sink.failed g.W.Sink.taken _ _ welcome c.from_residual.result c.from_residual.ensures.0
    (r.0, front-first _ _ login_end session_begin r.1)

pub returns : goal.returns
returns g c =
    text-then g.W.Sink.failed g.W.Sink.taken _ _ _ login_end session_begin c.write_session_begin.result
    c.in_ok-write_login_end.ensures.1 c.write_session_begin.ensures
