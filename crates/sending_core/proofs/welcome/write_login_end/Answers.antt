use Rattle.std.proofs.Common.{flat_map}
use Rattle.base_core.proofs.Fronts.{front-first, text-broken, text-then}
use Rattle.messages_core.specs.Server.{server_spelling}
use Rattle.messages_core.specs.declared.server.ServerMessage.TheVariants as servers
use Rattle.sending_core.specs.Welcome.{login_end, setting_status, told_settings}
use Rattle.sending_core.proofs.welcome.write_login_end.Goals as goal

pub returns-in_err-write_message : goal.returns-in_err-write_message
returns-in_err-write_message g c =
    let r = c.in_err-write_message.ensures in
    text-broken g.W.Sink.failed g.W.Sink.taken _ _ login_end c.from_residual.result c.from_residual.ensures.0
    (r.0, front-first _ _ (server_spelling servers.AuthenticationOk) (flat_map setting_status told_settings) r.1)

pub returns : goal.returns
returns g c =
    text-then g.W.Sink.failed g.W.Sink.taken _ _ _ (server_spelling servers.AuthenticationOk) (flat_map setting_status told_settings) c.write_settings.result
    c.in_ok-write_message.ensures.1 c.write_settings.ensures
