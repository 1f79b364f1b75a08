use Rattle.std.proofs.Common.{rules, arith, ◌≡◌, ℕ, suc, List, ◌∷◌, ◌+◌, get_or, subst, sym}
use Rattle.std.specs.Prelude.{All}
use Rattle.server_core.specs.Sessions.{IsNewWorker, IsTenders, IsCheckpointers}
use Rattle.serving_core.specs.Promises.{IsOfServer}
use denote.Param.{param}
use denote.Param.Send.{sendable, param_send, arg_send}
use Rattle.std.proofs.Crossing.{crosses}
use Rattle.turnstile.proofs.pass.Pass.TheSendSync as pass
use Rattle.server_core.specs.contracts.instance.AtSite as AtSite
use Rattle.serving_core.proofs.Sends.{core_send, desk_sync, worker_send, door_send, at_site_send, service_sync}
use Rattle.serving_core.proofs.threads.fn.serve_all.scope.Goals.{in-Ok-spawn_with-3, in-Err}
use Rattle.serving_core.proofs.threads.fn.serve_all.scope.Goals as goal

next_all : {A : Type 0} (P : A → Type 0) (old new : List A) (x : A) → old ≡ x ∷ new → (k : ℕ) (d : A) → P (get_or old (suc k) d) → P (get_or new k d)
next_all P old new x e k d h = subst (λ xs. P (get_or xs (suc k) d)) e h

pub spawn_with-requires-send-F : goal.spawn_with-requires-send-F
spawn_with-requires-send-F g c κs within =
    let k = c.requires.crosses.0 in
    let rt = c.requires.crosses.1 in
    let core = core_send (param 0 g.row.K) g.K.Keeper k in
    let desk = desk_sync (param 0 g.row.K) g.K.Keeper k in
    let machine = c.requires.crosses.4 in
    let site = at_site_send (param 2 g.row.S) (param 3 g.row.M) (param 4 g.row.Y) c.requires.crosses.3 machine c.requires.crosses.5 in
    let service = service_sync (param 0 g.row.K) (AtSite.the_row (param 2 g.row.S) (param 3 g.row.M) (param 4 g.row.Y)) (param 3 g.row.M) (param 4 g.row.Y) g.K.Keeper k site machine c.requires.crosses.6 in
    search (param_send, arg_send, sendable, crosses, pass.the_send) depth 40 fits 20000

pub spawn_with-requires-send-T : goal.spawn_with-requires-send-T
spawn_with-requires-send-T g c κs within =
    let core = core_send (param 0 g.row.K) g.K.Keeper c.requires.crosses.0 in
    search (param_send, arg_send, pass.the_send) depth 10

pub spawn_with-requires-2-send-F : goal.spawn_with-requires-2-send-F
spawn_with-requires-2-send-F g c κs within =
    let k = c.requires.crosses.0 in
    let rt = c.requires.crosses.1 in
    let core = core_send (param 0 g.row.K) g.K.Keeper k in
    let desk = desk_sync (param 0 g.row.K) g.K.Keeper k in
    let machine = c.requires.crosses.4 in
    let site = at_site_send (param 2 g.row.S) (param 3 g.row.M) (param 4 g.row.Y) c.requires.crosses.3 machine c.requires.crosses.5 in
    let service = service_sync (param 0 g.row.K) (AtSite.the_row (param 2 g.row.S) (param 3 g.row.M) (param 4 g.row.Y)) (param 3 g.row.M) (param 4 g.row.Y) g.K.Keeper k site machine c.requires.crosses.6 in
    let tender = c.requires.crosses.7 in
    search (param_send, arg_send, sendable, crosses, pass.the_send) depth 40 fits 20000

pub spawn_with-requires-2-send-T : goal.spawn_with-requires-2-send-T
spawn_with-requires-2-send-T g c κs within =
    let core = core_send (param 0 g.row.K) g.K.Keeper c.requires.crosses.0 in
    search (param_send, arg_send, pass.the_send) depth 10

pub spawn_with-requires-in-loop-worker-send-F : goal.spawn_with-requires-in-loop-worker-send-F
spawn_with-requires-in-loop-worker-send-F g c κs within =
    let k = c.requires.crosses.0 in
    let rt = c.requires.crosses.1 in
    let log = c.requires.crosses.2 in
    let desk = desk_sync (param 0 g.row.K) g.K.Keeper k in
    let own = worker_send (param 0 g.row.K) (param 1 g.row.L) g.K.Keeper g.L.Ledger k in
    let door = door_send (param 1 g.row.L) g.L.Ledger in
    let machine = c.requires.crosses.4 in
    let site = at_site_send (param 2 g.row.S) (param 3 g.row.M) (param 4 g.row.Y) c.requires.crosses.3 machine c.requires.crosses.5 in
    let service = service_sync (param 0 g.row.K) (AtSite.the_row (param 2 g.row.S) (param 3 g.row.M) (param 4 g.row.Y)) (param 3 g.row.M) (param 4 g.row.Y) g.K.Keeper k site machine c.requires.crosses.6 in
    search (param_send, arg_send, sendable, crosses) depth 40 fits 20000

pub spawn_with-requires-in-loop-worker-send-T : goal.spawn_with-requires-in-loop-worker-send-T
spawn_with-requires-in-loop-worker-send-T g c κs within =
    let own = worker_send (param 0 g.row.K) (param 1 g.row.L) g.K.Keeper g.L.Ledger c.requires.crosses.0 in
    search (param_send, arg_send) depth 10

pub loop-worker-preserved-after-spawn_with-3-2 : goal.loop-worker-preserved-after-spawn_with-3-2
loop-worker-preserved-after-spawn_with-3-2 g c =
    let was = c.loop-worker.invariant in
    let step = c.in-Some.ensures.steps in (
      (λ k d below. next_all (λ w. IsNewWorker c.captures.begun.now.value.journal c.captures.desk.now w) _ _ c.in-Some.worker step.0 k d (was.0 (suc k) d (omega (arith, below, step.1)))),
      elim c.match-spawn_with-3.branch [
        | in-Ok-spawn_with-3 w ↦ subst (λ z. All (λ p. IsOfServer c.captures.desk.now c.captures.begun.now c.captures.service.now.entrance.now p.promise) z.items) (sym w.threads-is) w.keep.ensures
        | in-Err w ↦ subst (λ z. All (λ p. IsOfServer c.captures.desk.now c.captures.begun.now c.captures.service.now.entrance.now p.promise) z.items) (sym w.threads-is) was.1
      ],
    )

pub loop-worker-preserved : goal.loop-worker-preserved
loop-worker-preserved g c =
    let was = c.loop-worker.invariant in
    let step = c.in-Some.ensures.steps in (
      (λ k d below. let h = was.0 (k + 1) d in grind rules),
      elim c.match-spawn_with-3.branch [
        | in-Ok-spawn_with-3 w ↦ subst (λ z. All (λ p. IsOfServer c.captures.desk.now c.captures.begun.now c.captures.service.now.entrance.now p.promise) z.items) (sym w.threads-is) w.keep.ensures
        | in-Err w ↦ subst (λ z. All (λ p. IsOfServer c.captures.desk.now c.captures.begun.now c.captures.service.now.entrance.now p.promise) z.items) (sym w.threads-is) was.1
      ],
    )

pub returns : goal.returns
returns g c = record {
  workers = c.in_ok-back.ensures;
  own = (
    subst (λ p. IsTenders p.1.now.value.journal p.0.now c.join-tender.result) c.in-Ok-spawn_with-2.ensures.ok c.join-tender.ensures,
    subst (λ p. IsCheckpointers p.1.now.value.journal p.0.now c.join-checkpointer.result) c.in-Ok-spawn_with.ensures.ok c.join-checkpointer.ensures,
  );
}
