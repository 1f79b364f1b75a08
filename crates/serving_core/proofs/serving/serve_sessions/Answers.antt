use Rattle.std.proofs.Common.{◌≡◌, length, sym, ap, ◌∙◌, subst}
use Rattle.turnstile.specs.Closed.{AreAll}
use Rattle.turnstile.specs.Passes.{new_passes}
use Rattle.system_core.specs.World.{World}
use Rattle.desk_core.specs.Turns.{Ended}
use Rattle.server_core.specs.Sessions.{AreServers, Leaves}
use Rattle.door_core.specs.declared.door.Taken.{Taken}
use Rattle.serving_core.proofs.PassLemmas.{all_new, servers_of, if_ok_both, if_ok_with, leaves_of, passes_count}
use Rattle.serving_core.proofs.serving.serve_sessions.Goals as goal

pub serve_through-requires-clause-new : goal.serve_through-requires-clause-new
serve_through-requires-clause-new g c κs within =
    all_new c.of-begun.result.value.journal c.in_ok-desk.desk c.in_ok-desk.passes.items (subst (λ (w : World). c.in_ok-desk.passes.items ≡ new_passes w.journal c.in_ok-desk.desk) (sym c.of-begun.ensures) c.in_ok-desk.ensures.passes)

pub serve_through-requires-clause-passes : goal.serve_through-requires-clause-passes
serve_through-requires-clause-passes g c κs within =
    ap length c.in_ok-desk.ensures.passes ∙ (passes_count c.args.system.journal c.in_ok-desk.desk 0 c.in_ok-desk.desk.count ∙ c.in_ok-desk.ensures.desk.0)

pub close-requires : goal.close-requires
close-requires g c = servers_of g.M.SessionMachine.protocol c.args.entrance.now c.of-begun.result.value.journal c.in_ok-desk.desk c.in-Ok.taken.sessions c.in-Ok.passes.items c.in-Ok.ensures.servers

pub returns-in-Ok-clause-leaves : goal.returns-in-Ok-clause-leaves
returns-in-Ok-clause-leaves g c =
    let desk = c.in_ok-desk.desk in
    let passes = c.in-Ok.passes.items in
    let ensured = c.in_ok-desk.ensures in
    let begun = subst (λ (w : World). AreServers g.M.SessionMachine.protocol c.args.entrance.now w.journal desk c.in-Ok.taken.sessions passes) c.of-begun.ensures c.in-Ok.ensures.servers in
    let both = if_ok_both (λ served. served.taken ≡ c.in-Ok.taken) (λ served. Ended desk passes served.system) c.close.result c.close.ensures.count c.close.ensures.ended in
    if_ok_with (AreAll desk passes) (λ served. (served.taken ≡ c.in-Ok.taken) × Ended desk passes served.system) (λ served. Leaves g.M.SessionMachine.protocol c.args.entrance.now c.args.workers served.taken.sessions c.args.keeper c.args.system served.system) c.close.result c.close.ensures.all both
    (λ served all h. leaves_of g.M.SessionMachine.protocol c.args.entrance.now c.args.workers served.taken.sessions c.args.keeper c.args.system served.system desk passes ensured.desk.0 ensured.desk.1 ensured.origin (subst (λ n. AreServers g.M.SessionMachine.protocol c.args.entrance.now c.args.system.journal desk n passes) (sym (ap (λ (t : Taken). t.sessions) h.0)) begun) all h.1)
