use denote.Param.{param}
use denote.Param.Send.{param_send, arg_send}
use Rattle.either_core.proofs.Sends.{either_send}
use Rattle.serving_core.proofs.Sends.{core_send, parked_send, wire_send}
use Rattle.serving_core.proofs.serving.serve_on.Goals as goal

pub serve_sessions-requires-send-M : goal.serve_sessions-requires-send-M
serve_sessions-requires-send-M g c κs within =
    let keeper = c.type_bounds.send-K in
    let core = core_send (param 0 g.row.K) g.K.Keeper keeper in
    let parked = parked_send (param 0 g.row.K) g.K.Keeper keeper in
    let wire = wire_send (param 0 g.row.K) g.K.Keeper keeper in
    let either = either_send (param 0 g.row.K) _ _ g.K.Keeper core parked wire in
    search (param_send, arg_send) depth 10
