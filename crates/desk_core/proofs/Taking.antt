-- A turn of the turn lock, with the core as its object, is a turn at the desk.
use Rattle.std.proofs.Common.{◌≡◌, ◌≤◌, ◌<◌, ◌+◌, ◌^◌, ℕ, Bool, true, false, List, [], ◌++◌, length, drop, refl, sym, ap, ◌∙◌, subst, arith, append-nil, length-append, Global}
use Rattle.std.specs.Prelude.{Option, option_map, Result, Ok, Err, IfOk, OnErr, MatchResult}
use Rattle.std.specs.Arc.{arc_value}
use Rattle.std.specs.declared.sync.Arc.{Arc}
use Rattle.std.proofs.lemmas.List.{drop_at}
use Rattle.std.proofs.lemmas.List.Elements.{All-weaker}
use Rattle.turnstile.specs.Logs.{StartsWith, gained}
use Rattle.turnstile.specs.Passes.{mine}
use Rattle.turnstile.specs.Turned.{Turned}
use Rattle.turnstile.specs.Closed.{Closed, Kept}
use Rattle.desk_core.specs.declared.object.Ask.{Ask}
use Rattle.std.specs.declared.snapshot.Snapshot.{Snapshot}
use Rattle.system_core.specs.declared.machine.event.Entry.{Entry}
use Rattle.system_core.specs.declared.machine.event.Event.{Event}
use Rattle.system_core.specs.declared.machine.event.Reply.{Reply}
use Rattle.system_core.specs.Entering.{entered}
use Rattle.base_core.specs.declared.memory.NoMemory.{NoMemory}
use Rattle.folder_core.specs.declared.errand.Errand.{Errand}
use Rattle.capture_core.specs.declared.image.Image.{Image}
use Rattle.system_core.specs.World.{World, IsLawfulWorld}
use Rattle.system_core.specs.Imaging.{IsKeptImage}
use Rattle.system_core.proofs.Entered.{step_enters}
use Rattle.journal_core.specs.Keeping.{KeepsOrOwes}
use Rattle.journal_core.specs.Recorder.{with_keeper, says_change, StepsKept}
use Rattle.journal_core.specs.declared.keeper.Keeper.{Ghosts}
use Rattle.journal_core.specs.declared.recorder.Acted.{Acted}
use Rattle.journal_core.specs.declared.recorder.Unkept.{Unkept}
use Rattle.journal_core.proofs.Entering.{done_enters, one-told}
use Rattle.desk_core.specs.Guarded.{Origin, CoreState, DeskLock, DeskPass, origin_of, snapshot}
use Rattle.desk_core.specs.Kept.{HasKept, IsKept}
use Rattle.desk_core.specs.declared.object.Purpose.{Purpose}
use Rattle.desk_core.specs.declared.object.Purpose.TheVariants as purposes
use Rattle.desk_core.specs.Acting.{event_of, basis, images_of, Acts, Answering, MayBeAsked, ActsFor}
use Rattle.desk_core.specs.Turns.{asked_by, journal_of, begun_of, basis_of, Took, Answered, took, Ended}
use Rattle.desk_core.proofs.Entering.{keeps_on}

gained-is : (old new entries : List Entry) → new ≡ old ++ entries → gained old new ≡ entries
gained-is old new entries e = ap (λ log. drop (length old) log) e ∙ drop_at old entries (length old) refl

module _ {K : Type 0} (rules : Ghosts K) where
  -- a step between worlds that are called otherwise
  pub steps_at : (old old' new new' : World) (event event' : Event) (acted : Acted) (k k' : K) → old ≡ old' → event ≡ event' → new' ≡ new
      → StepsKept rules (with_keeper old k) event acted.reply acted.told (with_keeper new k')
      → StepsKept rules (with_keeper old' k) event' acted.reply acted.told (with_keeper new' k')
  steps_at old old' new new' event event' acted k k' was is last steps =
      subst (λ (t : World × Event × World). StepsKept rules (with_keeper t.0 k) t.1 acted.reply acted.told (with_keeper t.2 k')) (λ i. (was i, is i, sym last i)) steps

  -- what the core stands for stays in order
  pub act_stands : (old new : World) (event : Event) (acted : Acted) (origin : Origin K) (k k' : K)
      → (old.chunk ≡ origin.chunk) × (old.limits ≡ origin.limits) × (origin.front ≤ length old.journal) × HasKept rules origin old.journal k
      → StepsKept rules (with_keeper old k) event acted.reply acted.told (with_keeper new k')
      → (new.chunk ≡ origin.chunk) × (new.limits ≡ origin.limits) × (origin.front ≤ length new.journal) × HasKept rules origin new.journal k'
  act_stands old new event acted origin k k' (is, within, low, had) steps = let m = step_enters old new event acted.reply steps.step in (
    m.chunk ∙ is,
    m.limits ∙ within,
    (let long = ap length m.journal ∙ length-append old.journal (entered event acted.reply) in omega arith),
    keeps_on rules origin old.journal (entered event acted.reply) new.journal k k' acted.told low m.journal had steps.keeping,
  )

  module _ (desk : DeskLock K) (ask : Ask) (answer : Acted) (old new : DeskPass K)
      (t : Turned {O = CoreState K} (λ c. c.world.journal) asked_by (λ c. c.world.begun) basis (Acts rules) desk ask answer old new) where
    pub turn_taken : (old.drawn < new.drawn) × (new.drawn ≤ 2 ^ 62) → new.turns ≡ old.turns + 1 → Took desk ask answer.reply old new
    turn_taken drawn counted =
        let m = step_enters t.before.world t.after.world (event_of old.number ask) answer.reply t.acted.steps.step in
        record {
          before = t.before.world;
          after = t.after.world;
          lawful = t.acted.lawful;
          chunk = ap (λ (s : Snapshot (Origin K)). s.value.chunk) t.fixed_is;
          limits = ap (λ (s : Snapshot (Origin K)). s.value.limits) t.fixed_is;
          seen_before = t.seen_before;
          mark_before = t.mark_before;
          step = t.acted.steps.step;
          seen_after = t.seen_after;
          mark_after = t.mark_after;
          mine_after = t.mine_after ∙ ap (λ es. mine asked_by old ++ es) (gained-is t.before.world.journal t.after.world.journal (entered (event_of old.number ask) answer.reply) m.journal);
          drawn = drawn;
          counted = counted;
        }

    -- what may be told is kept, and nothing is owed of a change
    pub turn_kept : answer.told ≡ true → IsKept rules (origin_of desk) answer.reply new.seen
    turn_kept told =
        let event = event_of old.number ask in
        let steps = t.acted.steps in
        let keeper = ap (λ (o : Origin K). o.keeper) t.acted.origin ∙ ap (λ (s : Snapshot (Origin K)). s.value.keeper) t.fixed_is in
        let front = ap (λ (o : Origin K). o.front) t.acted.origin ∙ ap (λ (s : Snapshot (Origin K)). s.value.front) t.fixed_is in
        record {
          keeper = t.after.keeper;
          kept = subst (λ (z : K × ℕ × List Entry). KeepsOrOwes rules z.0 (drop z.1 z.2) t.after.keeper) (λ i. (keeper i, front i, sym t.seen_after i)) t.acted.has_kept;
          settled = λ done.
              let one = done_enters t.before.world t.after.world event answer.reply done steps.step in
              one-told rules t.before.keeper t.after.keeper (entered event answer.reply) one.0 answer.told one.1 steps.keeping told;
        }

    -- only that to a change may not be told
    pub turn_change : answer.told ≡ false → says_change (event_of old.number ask) ≡ true
    turn_change untold = t.acted.steps.withheld untold

  -- a turn in which the core acts
  pub acted_turn : (desk : DeskLock K) (ask : Ask) (answer : Answering K) (old new : DeskPass K)
      → Turned {O = CoreState K} (λ c. c.world.journal) asked_by (λ c. c.world.begun) basis (ActsFor rules) desk (purposes.Act ask) answer old new
      → Turned {O = CoreState K} (λ c. c.world.journal) asked_by (λ c. c.world.begun) basis (Acts rules) desk ask answer.acted old new
  acted_turn desk ask answer old new t = record {
    before = t.before;
    after = t.after;
    acted = t.acted;
    grown = t.grown;
    fixed_is = t.fixed_is;
    seen_before = t.seen_before;
    mark_before = t.mark_before;
    seen_after = t.seen_after;
    mark_after = t.mark_after;
    mine_after = t.mine_after;
  }

  -- a turn that leaves the core as it is
  module _ (desk : DeskLock K) (purpose : Purpose) (answer : Answering K) (old new : DeskPass K)
      (t : Turned {O = CoreState K} (λ c. c.world.journal) asked_by (λ c. c.world.begun) basis (ActsFor rules) desk purpose answer old new) (same : t.after ≡ t.before) where
    -- the pass has then seen the core as it was found
    pub idle_found : new.seen ≡ t.before.world.journal
    idle_found = t.seen_after ∙ ap (λ (c : CoreState K). c.world.journal) same

    pub idle_seen : StartsWith new.seen old.seen
    idle_seen = subst (λ (s : List Entry). StartsWith s old.seen) (sym idle_found) t.seen_before

    pub idle_mark : old.mark ≤ new.mark
    idle_mark = subst (λ (m : ℕ). old.mark ≤ m) (sym (t.mark_after ∙ ap (λ (c : CoreState K). c.world.begun) same)) t.mark_before

    pub idle_made : mine asked_by new ≡ mine asked_by old
    idle_made =
        let none = ap (λ (c : CoreState K). c.world.journal) same ∙ sym (append-nil t.before.world.journal) in
        t.mine_after ∙ ap (λ es. mine asked_by old ++ es) (gained-is t.before.world.journal t.after.world.journal [] none) ∙ append-nil (mine asked_by old)

  module _ (desk : DeskLock K) (answer : Answering K) (old new : DeskPass K)
      (t : Turned {O = CoreState K} (λ c. c.world.journal) asked_by (λ c. c.world.begun) basis (ActsFor rules) desk purposes.Look answer old new) where
    found : new.seen ≡ t.before.world.journal
    found = idle_found desk purposes.Look answer old new t t.acted.same

    pub look_count : answer.count ≡ length new.seen
    look_count = t.acted.count_is ∙ ap length (sym found)

    pub look_kept : HasKept rules (origin_of desk) new.seen answer.keeper
    look_kept =
        let keeper = ap (λ (s : Snapshot (Origin K)). s.value.keeper) t.fixed_is in
        let front = ap (λ (s : Snapshot (Origin K)). s.value.front) t.fixed_is in
        subst (λ (z : K × ℕ × List Entry × K). KeepsOrOwes rules z.0 (drop z.1 z.2) z.3) (λ i. (keeper i, front i, sym found i, sym t.acted.keeper_is i)) t.acted.has_kept

  -- the image is one of the world that the pass has then seen
  pub found_image : (desk : DeskLock K) (number : ℕ) (answer : Answering K) (old new : DeskPass K)
      → Turned {O = CoreState K} (λ c. c.world.journal) asked_by (λ c. c.world.begun) basis (ActsFor rules) desk (purposes.Find number) answer old new
      → IfOk answer.found (λ found. (w : World) × IsLawfulWorld w × (w.journal ≡ new.seen) × IsKeptImage w number found)
  found_image desk number answer old new t = by answer.found t.acted.image
    where
      by : (found : Result (Option Image) NoMemory) → IfOk found (IsKeptImage t.before.world number) → IfOk found (λ i. (w : World) × IsLawfulWorld w × (w.journal ≡ new.seen) × IsKeptImage w number i)
      by (Ok i) kept = (t.before.world, t.acted.lawful, sym (idle_found desk (purposes.Find number) answer old new t t.acted.same), kept)
      by (Err e) kept = tt

  -- and the keeper has kept it
  pub found_kept : (desk : DeskLock K) (number : ℕ) (answer : Answering K) (old new : DeskPass K)
      → Turned {O = CoreState K} (λ c. c.world.journal) asked_by (λ c. c.world.begun) basis (ActsFor rules) desk (purposes.Find number) answer old new
      → (keeper : K) × HasKept rules (origin_of desk) new.seen keeper
  found_kept desk number answer old new t =
      let keeper = ap (λ (s : Snapshot (Origin K)). s.value.keeper) t.fixed_is in
      let front = ap (λ (s : Snapshot (Origin K)). s.value.front) t.fixed_is in
      let seen = idle_found desk (purposes.Find number) answer old new t t.acted.same in
      (t.before.keeper, subst (λ (z : K × ℕ × List Entry). KeepsOrOwes rules z.0 (drop z.1 z.2) t.before.keeper) (λ i. (keeper i, front i, sym seen i)) t.acted.has_kept)

  -- what the keeper may run that has kept all that the pass has seen may be asked of the core
  pub may_tend : (desk : DeskLock K) (old : DeskPass K) (errand : Errand)
      → ((journal : List Entry) (keeper : K) → StartsWith journal old.seen → HasKept rules (origin_of desk) journal keeper → rules.may_run keeper errand)
      → (c : CoreState K) → StartsWith c.world.journal old.seen → basis c ≡ desk.fixed → MayBeAsked rules c (purposes.Tend errand)
  may_tend desk old errand may c seen fixed has =
      let keeper = ap (λ (s : Snapshot (Origin K)). s.value.keeper) fixed in
      let front = ap (λ (s : Snapshot (Origin K)). s.value.front) fixed in
      may c.world.journal c.keeper seen (subst (λ (z : K × ℕ). KeepsOrOwes rules z.0 (drop z.1 c.world.journal) c.keeper) (λ i. (keeper i, front i)) has)

  -- the core that comes out of the turn lock
  pub closed_ended : (desk : DeskLock K) (passes : List (DeskPass K)) (core : CoreState K) (w : World) → core.world ≡ w → IsLawfulWorld w
      → Closed {O = CoreState K} (λ c. c.world.journal) asked_by (λ c. c.world.begun) basis desk passes core → Ended desk passes w
  closed_ended desk passes core w is lawful c = record {
    lawful = lawful;
    closed = subst (Closed journal_of asked_by begun_of (basis_of (origin_of desk)) desk passes) is record {
      fixed_is = ap (λ (s : Snapshot (Origin K)). snapshot (record (origin_of desk) { chunk = s.value.chunk; limits = s.value.limits })) c.fixed_is;
      bears = c.bears;
      kept = All-weaker (Kept {O = CoreState K} (λ c. c.world.journal) asked_by (λ c. c.world.begun) core) (Kept journal_of asked_by begun_of core.world)
          (λ p k. record { seen = k.seen; made = k.made; marked = k.marked }) passes c.kept;
      drawn = c.drawn;
      bound = c.bound;
    };
  }

  -- and its keeper, which tried once more to keep what it owed
  pub closed_kept : (desk : DeskLock K) (passes : List (DeskPass K)) (core : CoreState K) (w : World) (keeper : K) → core.world ≡ w → HasKept rules core.origin core.world.journal core.keeper
      → ((start : K) (entries : List Entry) → KeepsOrOwes rules start entries core.keeper → KeepsOrOwes rules start entries keeper)
      → Closed {O = CoreState K} (λ c. c.world.journal) asked_by (λ c. c.world.begun) basis desk passes core → HasKept rules (origin_of desk) w.journal keeper
  closed_kept desk passes core w keeper is had tried c =
      let start = ap (λ (s : Snapshot (Origin K)). s.value.keeper) c.fixed_is in
      let front = ap (λ (s : Snapshot (Origin K)). s.value.front) c.fixed_is in
      subst (λ (z : K × ℕ × World). KeepsOrOwes rules z.0 (drop z.1 z.2.journal) keeper) (λ i. (start i, front i, is i))
      (tried core.origin.keeper (drop core.origin.front core.world.journal) had)

module _ {K : Type 0} (desk : DeskLock K) (ask : Ask) (said : Reply) (told : Bool) (old new : DeskPass K) where
  pub answered_if : (r : Result Reply Unkept) → MatchResult r (λ reply. (told ≡ true) × (reply ≡ said)) (λ _. told ≡ false) → Took desk ask said old new → IfOk r (λ reply. Answered desk ask reply old new)
  answered_if (Ok reply) h t = took (subst (λ z. Took desk ask z old new) (sym h.1) t)
  answered_if (Err e) h t = tt

  pub kept_if : (P : Reply → Type 0) (r : Result Reply Unkept) → MatchResult r (λ reply. (told ≡ true) × (reply ≡ said)) (λ _. told ≡ false) → (told ≡ true → P said) → IfOk r P
  kept_if P (Ok reply) h p = subst P (sym h.1) (p h.0)
  kept_if P (Err e) h p = tt

  pub change_if : {P : Type 0} (r : Result Reply Unkept) → MatchResult r (λ reply. (told ≡ true) × (reply ≡ said)) (λ _. told ≡ false) → (told ≡ false → P) → OnErr r P
  change_if (Ok reply) h p = tt
  change_if (Err e) h p = p h

  pub withheld_if : (r : Result Reply Unkept) → MatchResult r (λ reply. (told ≡ true) × (reply ≡ said)) (λ _. told ≡ false) → Took desk ask said old new → OnErr r ((reply : Reply) × Took desk ask reply old new)
  withheld_if (Ok reply) h t = tt
  withheld_if (Err e) h t = (said, t)

-- the same of the image as it is shared
pub shared_image : (P : Option Image → Type 0) (r : Result (Option (Arc Image Global)) NoMemory) → IfOk (images_of r) P → IfOk r (λ image. P (option_map arc_value image))
shared_image P (Ok image) p = p
shared_image P (Err e) p = tt

pub images_are : (P : Option Image → Type 0) (r : Result (Option (Arc Image Global)) NoMemory) → IfOk r (λ image. P (option_map arc_value image)) → IfOk (images_of r) P
images_are P (Ok image) p = p
images_are P (Err e) p = tt
