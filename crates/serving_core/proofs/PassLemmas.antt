-- New passes, and what threads make of them.
use Rattle.std.proofs.Common.{◌≡◌, ℕ, zero, suc, ◌+◌, List, [], ◌∷◌, ◌++◌, length, map, Some, All, refl, subst, sym, ap, ◌∙◌, append_assoc}
use Rattle.std.specs.Prelude.{Result, Ok, Err, OnOk, IfOk}
use Rattle.std.proofs.lemmas.List.Elements.{All-nil, All-cons, All-append, All-pop, All-weaker, All-map}
use Rattle.turnstile.specs.Logs.{StartsWith}
use Rattle.turnstile.specs.Closed.{Kept, AreAll}
use Rattle.turnstile.specs.Passes.{IsSamePass, passes_from, new_passes}
use Rattle.desk_core.specs.Guarded.{DeskLock, DeskPass, origin_of, origin_at}
use Rattle.desk_core.specs.Turns.{asked_by, journal_of, begun_of, Ended}
use Rattle.system_core.specs.World.{World}
use Rattle.system_core.specs.declared.machine.event.Entry.{Entry}
use Rattle.session_core.specs.Checking.{LooksRepeatedly, unchecked, checked}
use Rattle.session_core.specs.Gains.{Watches}
use Rattle.session_core.specs.Tending.{Tends}
use Rattle.session_core.proofs.Checked.{looks_watches}
use Rattle.session_core.proofs.Tended.{tends_watches}
use Rattle.session_core.proofs.Growing.{Watches-refl, Watches-trans}
use Rattle.session_core.specs.Machines.{Protocol}
use Rattle.door_core.specs.Entrance.{Admittance}
use Rattle.server_core.specs.Sessions.{IsOf, IsNew, new_pass, Working, new_worker, IsNewWorker, Attended, IsWorkers, IsTenders, IsCheckpointers, AreServers, Leaves}
use Rattle.server_core.proofs.SamePass.{attended_same}

all_from : {K : Type 0} (journal : List Entry) (desk : DeskLock K) (first count : ℕ) → All (IsNew journal desk) (passes_from journal desk first count)
all_from journal desk first zero = All-nil (IsNew journal desk)
all_from journal desk first (suc n) = All-cons (IsNew journal desk) (new_pass journal desk first) (passes_from journal desk (suc first) n) refl (all_from journal desk (suc first) n)

pub all_new : {K : Type 0} (journal : List Entry) (desk : DeskLock K) (passes : List (DeskPass K)) → passes ≡ new_passes journal desk → All (IsNew journal desk) passes
all_new journal desk passes e = subst (λ z. All (IsNew journal desk) z) (sym e) (all_from journal desk 0 desk.count)

-- since the pass was new, sessions were served through it
pub worker_of : {K : Type 0} (protocol : Protocol K) (by : Admittance) (journal : List Entry) (desk : DeskLock K) (old new : Working K) → IsNewWorker journal desk old → Attended protocol by desk old new → IsWorkers protocol by journal desk new
worker_of protocol by journal desk old new idle served =
    let same = attended_same protocol by desk old new served in
    let start : old ≡ new_worker journal desk new.pass.number = idle ∙ ap (new_worker journal desk) (sym same.1) in
    subst (λ z. Attended protocol by desk z new) start served

pub checks_watch : {K : Type 0} (desk : DeskLock K) (old new : DeskPass K) → LooksRepeatedly desk old new → Watches old new
checks_watch desk old _ unchecked = Watches-refl old
checks_watch desk old _ (checked reply between new before look) = Watches-trans old between new (checks_watch desk old between before) (looks_watches desk reply between new look)

-- since the pass was new, it looked after checkpoints
pub checkpointer_of : {K : Type 0} (journal : List Entry) (desk : DeskLock K) (old new : DeskPass K) → IsNew journal desk old → LooksRepeatedly desk old new → IsSamePass old new → IsCheckpointers journal desk new
checkpointer_of journal desk old new fresh looked same =
    let start : old ≡ new_pass journal desk new.number = fresh ∙ ap (new_pass journal desk) (sym same.1) in
    subst (λ z. LooksRepeatedly desk z new) start looked

-- since the pass was new, what is kept was tended through it
pub tender_of : {K : Type 0} (journal : List Entry) (desk : DeskLock K) (old new : DeskPass K) → IsNew journal desk old → Tends desk old new → IsTenders journal desk new
tender_of journal desk old new fresh tended =
    let start : old ≡ new_pass journal desk new.number = fresh ∙ ap (new_pass journal desk) (sym (tends_watches desk old new tended).same.1) in
    subst (λ z. Tends desk z new) start tended

of_workers : {K : Type 0} (protocol : Protocol K) (by : Admittance) (journal : List Entry) (desk : DeskLock K) (workers : List (Working K)) → All (IsWorkers protocol by journal desk) workers → All (IsOf desk) (map (λ (w : Working K). w.pass) workers)
of_workers {K = K} protocol by journal desk workers served =
    All-map (IsOf desk) (λ (w : Working K). w.pass) workers
    (All-weaker (IsWorkers protocol by journal desk) (λ w. IsOf desk w.pass) (λ w h. (attended_same protocol by desk (new_worker journal desk w.pass.number) w h).0) workers served)

-- the passes of a server are of its desk
pub servers_of : {K : Type 0} (protocol : Protocol K) (by : Admittance) (journal : List Entry) (desk : DeskLock K) (sessions : ℕ) (passes : List (DeskPass K)) → AreServers protocol by journal desk sessions passes → All (IsOf desk) passes
servers_of {K = K} protocol by journal desk sessions passes s =
    let workers = of_workers protocol by journal desk s.workers s.served in
    let tender : s.tender.lock ≡ Some desk = (tends_watches desk (new_pass journal desk s.tender.number) s.tender s.tended).same.0 in
    let last : s.checkpointer.lock ≡ Some desk = (checks_watch desk (new_pass journal desk s.checkpointer.number) s.checkpointer s.checked).same.0 in
    let own = All-cons (IsOf desk) s.tender (s.checkpointer ∷ []) tender (All-cons (IsOf desk) s.checkpointer [] last (All-nil (IsOf desk))) in
    subst (λ z. All (IsOf desk) z) (sym s.passes_are) (All-append (IsOf desk) (map (λ (w : Working K). w.pass) s.workers) (s.tender ∷ s.checkpointer ∷ []) workers own)

-- and its journal begins with the one that it was built on
pub begins_with : {K : Type 0} (protocol : Protocol K) (by : Admittance) (journal : List Entry) (desk : DeskLock K) (sessions : ℕ) (passes : List (DeskPass K)) (w : World) → AreServers protocol by journal desk sessions passes → Ended desk passes w → StartsWith w.journal journal
begins_with {K = K} protocol by journal desk sessions passes w s e =
    let all = subst (All (Kept journal_of asked_by begun_of w)) s.passes_are e.closed.kept in
    let workers = map (λ (x : Working K). x.pass) s.workers in
    let front = workers ++ s.tender ∷ [] in
    let last = (All-pop (Kept journal_of asked_by begun_of w) (workers ++ s.tender ∷ s.checkpointer ∷ []) front (Some s.checkpointer) (sym (append_assoc workers (s.tender ∷ []) (s.checkpointer ∷ []))) all).1 in
    let seen = (checks_watch desk (new_pass journal desk s.checkpointer.number) s.checkpointer s.checked).seen in
    (seen.0 ++ last.seen.0, last.seen.1 ∙ (ap (λ z. z ++ last.seen.0) seen.1 ∙ append_assoc journal seen.0 last.seen.0))

-- what a result tells of its value, from two things that it tells
pub if_ok_with : {X Y : Type 0} (A : Type 0) (P Q : X → Type 0) (r : Result X Y) → OnOk r A → IfOk r P → ((x : X) → A → P x → Q x) → IfOk r Q
if_ok_with A P Q (Ok x) a p f = f x a p
if_ok_with A P Q (Err y) a p f = tt

-- two things that it tells of it, together
pub if_ok_both : {X Y : Type 0} (P Q : X → Type 0) (r : Result X Y) → IfOk r P → IfOk r Q → IfOk r (λ x. P x × Q x)
if_ok_both P Q (Ok x) p q = (p, q)
if_ok_both P Q (Err y) p q = tt

-- so many passes of a new desk
pub passes_count : {K : Type 0} (journal : List Entry) (desk : DeskLock K) (first count : ℕ) → length (passes_from journal desk first count) ≡ count
passes_count journal desk first zero = refl
passes_count journal desk first (suc n) = ap suc (passes_count journal desk (suc first) n)

-- what a server leaves
pub leaves_of : {K : Type 0} (protocol : Protocol K) (by : Admittance) (workers sessions : ℕ) (keeper : K) (start world : World) (desk : DeskLock K) (passes : List (DeskPass K)) → desk.count ≡ workers + 2 → desk.start ≡ 0
    → origin_of desk ≡ origin_at start keeper
    → AreServers protocol by start.journal desk sessions passes → AreAll desk passes → Ended desk passes world → Leaves protocol by workers sessions keeper start world
leaves_of protocol by workers sessions keeper start world desk passes count begins origin servers all ended = record {
  desk = desk;
  passes = passes;
  count_is = count;
  start_is = begins;
  origin_is = origin;
  all = all;
  servers = servers;
  ended = ended;
  begins = begins_with protocol by start.journal desk sessions passes world servers ended;
}
