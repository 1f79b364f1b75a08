use Rattle.login_core.proofs.FirstMessages.{no_first}
use Rattle.login_core.proofs.client_first.read_first.Goals as goal

pub returns-in_err-channel_binding : goal.returns-in_err-channel_binding
returns-in_err-channel_binding c =
    rw c.from_residual.ensures
    (λ channel_binding bare nonce s. c.in_err-channel_binding.ensures s.header channel_binding bare s.header_is s.said)

pub returns-in_err-nonce : goal.returns-in_err-nonce
returns-in_err-nonce c =
    let at = c.in_ok-channel_binding.ensures in
    rw c.from_residual-in_err-nonce.ensures
    (no_first c.args.message.now at.0 c.in_ok-channel_binding.channel_binding.now c.in_ok-channel_binding.bare.now at.1 at.2 c.in_err-nonce.ensures)
