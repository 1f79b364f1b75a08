use denote.Param.Send.{sendable, param_send, arg_send}
use Rattle.std.proofs.Crossing.{crosses}
use Rattle.turnstile.proofs.pass.Pass.TheSendSync as pass
use Rattle.acceptance.proofs.Sends.{core_crosses, desk_crosses}
use Rattle.acceptance.proofs.gates.all_at_once.Goals as goal

pub join-said-requires-send-F : goal.join-said-requires-send-F
join-said-requires-send-F g c κs within =
    let core = core_crosses in
    let desk = desk_crosses in
    let rt = c.type_bounds.sync-R in
    search (param_send, arg_send, sendable, crosses, pass.the_send) depth 40 fits 20000
