-- Workers who come back one by one.
use Rattle.std.proofs.Common.{◌≡◌, ℕ, ◌+◌, List, [], ◌∷◌, ◌++◌, map, All, refl, sym, ap, ◌∙◌, arith}
use Rattle.std.specs.Prelude.{sum_by}
use Rattle.std.proofs.lemmas.List.{map-append}
use Rattle.std.proofs.lemmas.List.Sums.{sum_by-append}
use Rattle.std.proofs.lemmas.List.Elements.{All-nil, All-push}
use Rattle.system_core.specs.declared.machine.event.Entry.{Entry}
use Rattle.desk_core.specs.Guarded.{DeskLock, DeskPass}
use Rattle.session_core.specs.Machines.{Protocol}
use Rattle.door_core.specs.Entrance.{Admittance}
use Rattle.server_core.specs.Sessions.{Working, IsWorkers, AreServers}
use Rattle.serving_core.specs.declared.own_passes.OwnPasses.{OwnPasses}
use Rattle.serving_core.specs.Promises.{AreOwn}

-- workers who have come back, with their passes, and how many sessions they served in all
pub record AreBack {K : Type 0} (protocol : Protocol K) (by : Admittance) (journal : List Entry) (desk : DeskLock K) (passes : List (DeskPass K)) (sessions : ℕ) : Type 0 where
  pub workers : List (Working K)
  pub passes_are : passes ≡ map (λ (w : Working K). w.pass) workers
  pub sessions_are : sum_by (λ (w : Working K). w.sessions) workers ≡ sessions
  pub served : All (IsWorkers protocol by journal desk) workers

pub back_nobody : {K : Type 0} (protocol : Protocol K) (by : Admittance) (journal : List Entry) (desk : DeskLock K) → AreBack protocol by journal desk [] 0
back_nobody protocol by journal desk = record { workers = []; passes_are = refl; sessions_are = refl; served = All-nil (IsWorkers protocol by journal desk) }

-- one more has come back
pub back_more : {K : Type 0} (protocol : Protocol K) (by : Admittance) (journal : List Entry) (desk : DeskLock K) (passes : List (DeskPass K)) (sessions : ℕ) (w : Working K) → AreBack protocol by journal desk passes sessions → IsWorkers protocol by journal desk w
    → AreBack protocol by journal desk (passes ++ w.pass ∷ []) (sessions + w.sessions)
back_more {K = K} protocol by journal desk passes sessions w b served = record {
  workers = b.workers ++ w ∷ [];
  passes_are = ap (λ ps. ps ++ w.pass ∷ []) b.passes_are ∙ sym (map-append (λ (x : Working K). x.pass) b.workers (w ∷ []));
  sessions_are =
      let e : sum_by (λ (x : Working K). x.sessions) (b.workers ++ w ∷ []) ≡ sum_by (λ (x : Working K). x.sessions) b.workers + (0 + w.sessions) = sum_by-append (λ (x : Working K). x.sessions) b.workers (w ∷ []) in
      omega (arith, b.sessions_are);
  served = All-push (IsWorkers protocol by journal desk) b.workers w b.served served;
}

-- and all have, with the passes of the server's own threads
pub back_all : {K : Type 0} (protocol : Protocol K) (by : Admittance) (journal : List Entry) (desk : DeskLock K) (passes : List (DeskPass K)) (sessions : ℕ) (own : OwnPasses K) → AreBack protocol by journal desk passes sessions → AreOwn journal desk own
    → AreServers protocol by journal desk sessions (passes ++ own.tender ∷ own.checkpointer ∷ [])
back_all protocol by journal desk passes sessions own b done = record {
  workers = b.workers;
  tender = own.tender;
  checkpointer = own.checkpointer;
  passes_are = ap (λ ps. ps ++ own.tender ∷ own.checkpointer ∷ []) b.passes_are;
  sessions_are = b.sessions_are;
  served = b.served;
  tended = done.0;
  checked = done.1;
}
