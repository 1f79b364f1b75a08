-- What sessions enter is of users who have come by right.
use Rattle.std.proofs.Common.{◌≡◌, ℕ, ◌<◌, Bool, true, false, cond, ◌==◌, Option, Some, None, List, [], ◌∷◌, ◌++◌, length, drop, map, All, refl, sym, ap, ◌∙◌, subst, arith, append_assoc, append-nil}
use Rattle.std.proofs.lemmas.List.{append_cancel_left, drop_at}
use Rattle.std.proofs.lemmas.List.Elements.{All-nil, All-cons, All-head, All-tail, All-append, All-push, All-map, All-weaker, All-contains, All-drop, filter-append}
use Rattle.std.proofs.lemmas.Bool.Decides.{nat_tests}
use Rattle.turnstile.specs.Logs.{own, gained}
use Rattle.turnstile.specs.Passes.{mine}
use Rattle.turnstile.specs.Closed.{Kept}
use Rattle.system_core.specs.World.{World}
use Rattle.system_core.specs.declared.machine.event.Entry.{Entry}
use Rattle.desk_core.specs.Guarded.{DeskLock, DeskPass, DeskNote}
use Rattle.desk_core.specs.Turns.{asked_by, journal_of, begun_of}
use Rattle.std.proofs.Math.Logic.{∥∥₁_elim, ∥∥₁_map, ∥∥₁_prop}
use Rattle.base_core.specs.declared.name.User.{User}
use Rattle.lines_core.specs.Serving.{Traffic}
use Rattle.session_core.specs.declared.admission.Admission.{Admission}
use Rattle.session_core.specs.Machines.{Protocol, Right}
use Rattle.session_core.specs.Parking.{GainsFor, pass_note}
use Rattle.door_core.specs.Entrance.{Admittance}
use Rattle.server_core.specs.Sessions.{Working, new_pass, new_worker, Attends, Attended, nobody, admitted, went_on, watched, nothing_known, IsWorkers, IsTenders, IsCheckpointers, AreServers, Leaves}
use Rattle.session_core.specs.Gains.{Watches}
use Rattle.session_core.proofs.Tended.{tends_watches}
use Rattle.serving_core.specs.Rightful.{IsByRight}
use Rattle.serving_core.proofs.PassLemmas.{checks_watch}

-- he has come by right
abbrev HasRight : Right → Admittance → User → Type 0
HasRight right by user = ∥ IsByRight right by user ∥₁

abbrev Rightful : Right → Admittance → Entry → Type 0
Rightful right by e = HasRight right by e.user

-- whose session of the protocol it is has come by right
abbrev IsRightful : {K : Type 0} → Right → Protocol K → Type 0
IsRightful {K = K} right protocol =
    (desk : DeskLock K) (admission : Admission) (user : User) (note : Option (DeskNote K)) (traffic : Traffic)
    → protocol desk admission (Some user) note traffic
    → right admission traffic user

-- what the pass has made since it had made these entries is of users who have come by right
abbrev Adds : {K : Type 0} → Right → Admittance → List Entry → DeskPass K → Type 0
Adds right by before pass = ∥ ((es : List Entry) × (mine asked_by pass ≡ before ++ es) × All (Rightful right by) es) ∥₁

gained_adds : {K : Type 0} (right : Right) (by : Admittance) (found : Option User) (old new : DeskPass K) → ((user : User) → found ≡ Some user → HasRight right by user) → GainsFor found old new
    → (es : List Entry) × (mine asked_by new ≡ mine asked_by old ++ es) × All (Rightful right by) es
gained_adds right by None old new come look = ([], look.mine_is ∙ sym (append-nil (mine asked_by old)), All-nil (Rightful right by))
gained_adds right by (Some user) old new come gains =
    (gains.entries, gains.mine_is, All-weaker (λ (e : Entry). e.user ≡ user) (Rightful right by) (λ e is. subst (HasRight right by) (sym is) (come user refl)) gains.entries gains.bear)

attends_adds : {K : Type 0} (right : Right) (protocol : Protocol K) (rightful : IsRightful right protocol) (by : Admittance) (desk : DeskLock K) (old new : DeskPass K) → Attends protocol by desk old new → (es : List Entry) × (mine asked_by new ≡ mine asked_by old ++ es) × All (Rightful right by) es
attends_adds right protocol rightful by desk old new a =
    gained_adds right by a.user old new
    (λ user named. ∣ record {
      admission = a.admission;
      admitted = a.admitted;
      traffic = nothing_known;
      come = rightful desk a.admission user (Some (pass_note desk new)) nothing_known
          (subst (λ u. protocol desk a.admission u (Some (pass_note desk new)) nothing_known) named a.spoken);
    } ∣₁) a.gained

attended_adds : {K : Type 0} (right : Right) (protocol : Protocol K) (rightful : IsRightful right protocol) (by : Admittance) (desk : DeskLock K) (old new : Working K) → Attended protocol by desk old new → Adds right by (mine asked_by old.pass) new.pass
attended_adds right protocol rightful by desk old _ nobody = ∣ ([], sym (append-nil (mine asked_by old.pass)), All-nil (Rightful right by)) ∣₁
attended_adds right protocol rightful by desk old _ (admitted between before) = attended_adds right protocol rightful by desk old between before
attended_adds right protocol rightful by desk old _ (went_on between pass before same session) =
    ∥∥₁_elim (attended_adds right protocol rightful by desk old between before) ∥∥₁_prop (λ first. ∥∥₁_map session (λ attends.
    let second = attends_adds right protocol rightful by desk between.pass pass attends in (
      first.0 ++ second.0,
      second.1 ∙ (ap (λ z. z ++ second.0) first.1 ∙ append_assoc (mine asked_by old.pass) first.0 second.0),
      All-append (Rightful right by) first.0 second.0 first.2 second.2,
    )))
attended_adds right protocol rightful by desk old _ (watched between pass before look) =
    ∥∥₁_map (attended_adds right protocol rightful by desk old between before) (λ first. (first.0, look.mine_is ∙ first.1, first.2))

abbrev AddsToJournal : {K : Type 0} → Right → Admittance → List Entry → DeskPass K → Type 0
AddsToJournal right by journal pass = Adds right by (own asked_by pass.number journal) pass

worker_adds : {K : Type 0} (right : Right) (protocol : Protocol K) (rightful : IsRightful right protocol) (by : Admittance) (journal : List Entry) (desk : DeskLock K) (w : Working K) → IsWorkers protocol by journal desk w → AddsToJournal right by journal w.pass
worker_adds right protocol rightful by journal desk w served = attended_adds right protocol rightful by desk (new_worker journal desk w.pass.number) w served

watcher_adds : {K : Type 0} (right : Right) (by : Admittance) (journal : List Entry) (desk : DeskLock K) (pass : DeskPass K) → Watches (new_pass journal desk pass.number) pass → AddsToJournal right by journal pass
watcher_adds right by journal desk pass look =
    ∣ ([], look.mine_is ∙ sym (append-nil (own asked_by pass.number journal)), All-nil (Rightful right by)) ∣₁

servers_add : {K : Type 0} (right : Right) (protocol : Protocol K) (rightful : IsRightful right protocol) (by : Admittance) (journal : List Entry) (desk : DeskLock K) (sessions : ℕ) (passes : List (DeskPass K)) → AreServers protocol by journal desk sessions passes → All (AddsToJournal right by journal) passes
servers_add {K = K} right protocol rightful by journal desk sessions passes s =
    let workers = All-map (AddsToJournal right by journal) (λ (w : Working K). w.pass) s.workers
    (All-weaker (IsWorkers protocol by journal desk) (λ w. AddsToJournal right by journal w.pass) (worker_adds right protocol rightful by journal desk) s.workers s.served) in
    let tender = watcher_adds right by journal desk s.tender (tends_watches desk (new_pass journal desk s.tender.number) s.tender s.tended) in
    let checkpointer = watcher_adds right by journal desk s.checkpointer (checks_watch desk (new_pass journal desk s.checkpointer.number) s.checkpointer s.checked) in
    let own = All-cons (AddsToJournal right by journal) s.tender (s.checkpointer ∷ []) tender (All-cons (AddsToJournal right by journal) s.checkpointer [] checkpointer (All-nil (AddsToJournal right by journal))) in
    subst (All (AddsToJournal right by journal)) (sym s.passes_are)
    (All-append (AddsToJournal right by journal) (map (λ (w : Working K). w.pass) s.workers) (s.tender ∷ s.checkpointer ∷ []) workers own)

-- what is true of what each number keeps of the entries is true of all
module _ (P : Entry → Type 0) (count : ℕ) where
  behind_first : (b : Bool) (e : Entry) (es : List Entry) → All P (cond b (e ∷ es) es) → All P es
  behind_first true e es h = All-tail P e es h
  behind_first false e es h = h

  same_number : (n : ℕ) → (n == n) ≡ true
  same_number n = grind (arith, nat_tests)

  all_by_numbers : (es : List Entry) → All (λ e. asked_by e < count) es → ((n : ℕ) → n < count → All P (own asked_by n es)) → All P es
  all_by_numbers [] below each = All-nil P
  all_by_numbers (e ∷ es) below each =
      let here = subst (λ b. All P (cond b (e ∷ own asked_by e.pass es) (own asked_by e.pass es))) (same_number e.pass) (each e.pass (All-head (λ x. asked_by x < count) e es below)) in
      All-cons P e es (All-head P e (own asked_by e.pass es) here)
      (all_by_numbers es (All-tail (λ x. asked_by x < count) e es below) (λ n h. behind_first (asked_by e == n) e (own asked_by n es) (each n h)))

-- what the passes of this number have added to the journal is what it has behind
added : {K : Type 0} (right : Right) (by : Admittance) (journal rest : List Entry) (world : World) (pass : DeskPass K) → world.journal ≡ journal ++ rest → AddsToJournal right by journal pass → Kept journal_of asked_by begun_of world pass
    → All (Rightful right by) (own asked_by pass.number rest)
added right by journal rest world pass is adds kept = λ k d h. ∥∥₁_elim adds ∥∥₁_prop (λ a.
    let all : own asked_by pass.number journal ++ own asked_by pass.number rest ≡ own asked_by pass.number journal ++ a.0 =
    sym (filter-append (λ e. asked_by e == pass.number) journal rest) ∙ (ap (own asked_by pass.number) (sym is) ∙ (kept.made ∙ a.1)) in
    subst (All (Rightful right by)) (sym (append_cancel_left (own asked_by pass.number journal) (own asked_by pass.number rest) a.0 all)) a.2 k d h)

-- both of each
all_both : {X : Type 0} (P Q : X → Type 0) (xs : List X) → All P xs → All Q xs → All (λ x. P x × Q x) xs
all_both P Q xs p q = λ k d h. (p k d h, q k d h)

pub entries_are_by_right : {K : Type 0} (right : Right) (protocol : Protocol K) (rightful : IsRightful right protocol) (by : Admittance) (workers sessions : ℕ) (keeper : K) (start world : World) → Leaves protocol by workers sessions keeper start world
    → All (Rightful right by) (gained start.journal world.journal)
entries_are_by_right {K = K} right protocol rightful by workers sessions keeper start world leaves =
    let rest = leaves.begins.0 in
    let is = leaves.begins.1 in
    let journal = start.journal in
    let adds = servers_add right protocol rightful by journal leaves.desk sessions leaves.passes leaves.servers in
    let both = all_both (AddsToJournal right by journal) (Kept journal_of asked_by begun_of world) leaves.passes adds leaves.ended.closed.kept in
    let numbers = All-map (λ n. All (Rightful right by) (own asked_by n rest)) (λ (p : DeskPass K). p.number) leaves.passes
    (All-weaker (λ p. AddsToJournal right by journal p × Kept journal_of asked_by begun_of world p) (λ p. All (Rightful right by) (own asked_by p.number rest)) (λ p h. added right by journal rest world p is h.0 h.1) leaves.passes both) in
    let each = λ (n : ℕ) (h : n < leaves.desk.count). All-contains (λ z. All (Rightful right by) (own asked_by z rest)) (map (λ (p : DeskPass K). p.number) leaves.passes) n numbers (leaves.all.each n h) in
    let same : gained journal world.journal ≡ rest = ap (drop (length journal)) is ∙ drop_at journal rest (length journal) refl in
    let below = subst (All (λ e. asked_by e < leaves.desk.count)) same (All-drop (λ e. asked_by e < leaves.desk.count) (length journal) world.journal leaves.ended.closed.bears) in
    subst (All (Rightful right by)) (sym same) (all_by_numbers (Rightful right by) leaves.desk.count rest below each)
