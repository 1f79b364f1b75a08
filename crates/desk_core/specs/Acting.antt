-- The core as what threads take turns at: what is asked through a pass, and what comes of it.
use Rattle.std.specs.Prelude.{ℕ, ◌≡◌, length, Option, option_map, Result, Ok, Err, IfOk}
use Rattle.std.proofs.Common.{inl, ◌∙◌, ap, sym, le_of_eq, append-nil, Global}
use Rattle.std.specs.Arc.{arc_value}
use Rattle.std.specs.declared.sync.Arc.{Arc}
use Rattle.std.specs.declared.snapshot.Snapshot.{Snapshot}
use Rattle.base_core.specs.declared.memory.NoMemory.{NoMemory}
use Rattle.capture_core.specs.declared.image.Image.{Image}
use Rattle.turnstile.specs.Logs.{Grown}
use Rattle.desk_core.specs.declared.object.Ask.{Ask}
use Rattle.desk_core.specs.declared.object.Ask.TheVariants as asks
use Rattle.desk_core.specs.declared.object.Purpose.{Purpose}
use Rattle.desk_core.specs.declared.object.Purpose.TheVariants as purposes
use Rattle.system_core.specs.declared.machine.event.Entry.{Entry}
use Rattle.system_core.specs.declared.machine.event.Event.{Event}
use Rattle.system_core.specs.declared.machine.event.Event.TheVariants as events
use Rattle.system_core.specs.World.{IsLawfulWorld}
use Rattle.system_core.specs.Imaging.{IsKeptImage}
use Rattle.system_core.proofs.Entered.{step_enters, one_at_most}
use Rattle.journal_core.specs.Recorder.{with_keeper, StepsKept}
use Rattle.journal_core.specs.declared.keeper.Keeper.{Ghosts}
use Rattle.journal_core.specs.declared.recorder.Acted.{Acted}
use Rattle.desk_core.specs.Guarded.{Origin, snapshot, CoreState}
use Rattle.desk_core.specs.Kept.{HasKept}

-- what is asked through a pass, as an event
abbrev pub event_of : ℕ → Ask → Event
event_of pass (asks.Say said) = events.Say pass said.user said.statement
event_of pass (asks.Describe said) = events.Describe said.user said.statement
event_of pass asks.Step = events.Step
event_of pass asks.Abandon = events.Abandon

-- the image that was found, as it is shared
abbrev pub images_of : Result (Option (Arc Image Global)) NoMemory → Result (Option Image) NoMemory
images_of (Ok found) = Ok (option_map arc_value found)
images_of (Err e) = Err e

-- what comes of a turn: a reply, and whether it may be told; how many entries the journal has behind it, and
-- what keeps them; and the image that was found, if one was asked for
pub record Answering (K : Type 0) : Type 0 where
  pub acted : Acted
  pub count : ℕ
  pub keeper : K
  pub found : Result (Option Image) NoMemory

-- what no act changes: what the desk was built on, whose chunk and limits the core still has
abbrev pub basis : {K : Type 0} → CoreState K → Snapshot (Origin K)
basis c = snapshot (record c.origin { chunk = c.world.chunk; limits = c.world.limits })

module _ {K : Type 0} (rules : Ghosts K) where
  -- A step of the machine from a lawful world, asked through a pass. What it entered is kept before the
  -- reply may be told.
  pub record Acts
      (old : CoreState K) (pass : ℕ) (ask : Ask) (answer : Acted) (new : CoreState K)
      : Type 0 where
    pub lawful : IsLawfulWorld old.world
    pub steps : StepsKept rules (with_keeper old.world old.keeper)
        (event_of pass ask) answer.reply answer.told (with_keeper new.world new.keeper)
    pub origin : new.origin ≡ old.origin
    pub has_kept : HasKept rules new.origin new.world.journal new.keeper

  -- it enters one entry of the pass at most, no checkpoint is unbegun, and the basis stays
  pub acts_grow :
      (old : CoreState K) (pass : ℕ) (ask : Ask) (answer : Acted) (new : CoreState K)
      → Acts old pass ask answer new
      → Grown {O = CoreState K} (λ c. c.world.journal) (λ (e : Entry). e.pass) (λ c. c.world.begun)
      basis pass old new
  acts_grow old pass (asks.Say said) answer new h =
      let m =
      step_enters old.world new.world (events.Say pass said.user said.statement) answer.reply
      h.steps.step
      in
      record {
        adds =
            one_at_most pass said.user said.statement answer.reply old.world.journal
            new.world.journal m.journal;
        rises = m.begun;
        stays = (λ i. snapshot (record (h.origin i) { chunk = m.chunk i; limits = m.limits i }));
      }
  acts_grow old pass (asks.Describe said) answer new h =
      let m =
      step_enters old.world new.world (events.Describe said.user said.statement) answer.reply
      h.steps.step
      in
      record {
        adds = inl (m.journal ∙ append-nil old.world.journal);
        rises = m.begun;
        stays = (λ i. snapshot (record (h.origin i) { chunk = m.chunk i; limits = m.limits i }));
      }
  acts_grow old pass asks.Step answer new h =
      let m = step_enters old.world new.world events.Step answer.reply h.steps.step in
      record {
        adds = inl (m.journal ∙ append-nil old.world.journal);
        rises = m.begun;
        stays = (λ i. snapshot (record (h.origin i) { chunk = m.chunk i; limits = m.limits i }));
      }
  acts_grow old pass asks.Abandon answer new h =
      let m = step_enters old.world new.world events.Abandon answer.reply h.steps.step in
      record {
        adds = inl (m.journal ∙ append-nil old.world.journal);
        rises = m.begun;
        stays = (λ i. snapshot (record (h.origin i) { chunk = m.chunk i; limits = m.limits i }));
      }

  -- A look at the core: it stays as it is, and how many entries its journal has is told, and what keeps them.
  pub record LooksAt (old : CoreState K) (answer : Answering K) (new : CoreState K) : Type 0 where
    pub same : new ≡ old
    pub has_kept : HasKept rules old.origin old.world.journal old.keeper
    pub count_is : answer.count ≡ length old.world.journal
    pub keeper_is : answer.keeper ≡ old.keeper

  -- The image of a checkpoint is found, if it is kept; the core stays as it is.
  pub record Finds (old : CoreState K) (number : ℕ) (answer : Answering K) (new : CoreState K)
      : Type 0 where
    pub lawful : IsLawfulWorld old.world
    pub same : new ≡ old
    pub has_kept : HasKept rules old.origin old.world.journal old.keeper
    pub image : IfOk answer.found (IsKeptImage old.world number)

  -- an errand of the keeper may be asked for where it may run it, whatever it has kept
  abbrev pub MayBeAsked : CoreState K → Purpose → Type 0
  MayBeAsked c (purposes.Tend errand) =
      HasKept rules c.origin c.world.journal c.keeper → rules.may_run c.keeper errand
  MayBeAsked c purpose = Unit {0}

  -- what a turn does that is for this
  abbrev pub ActsFor : CoreState K → ℕ → Purpose → Answering K → CoreState K → Type 0
  ActsFor old pass (purposes.Act ask) answer new = Acts old pass ask answer.acted new
  ActsFor old pass purposes.Look answer new = LooksAt old answer new
  ActsFor old pass (purposes.Find number) answer new = Finds old number answer new
  ActsFor old pass (purposes.Tend errand) answer new = new ≡ old

  -- a turn that leaves the core as it is
  same_grown : (old new : CoreState K) (pass : ℕ)
      → new ≡ old
      → Grown {O = CoreState K} (λ c. c.world.journal) (λ (e : Entry). e.pass) (λ c. c.world.begun)
      basis pass old new
  same_grown old new pass same =
      record {
        adds = inl (ap (λ (c : CoreState K). c.world.journal) same);
        rises = le_of_eq (ap (λ (c : CoreState K). c.world.begun) (sym same));
        stays = ap basis same;
      }

  -- it enters one entry of the pass at most, no checkpoint is unbegun, and the basis stays
  pub acts_for_grow :
      (old : CoreState K) (pass : ℕ) (purpose : Purpose) (answer : Answering K)
      (new : CoreState K)
      → ActsFor old pass purpose answer new
      → Grown {O = CoreState K} (λ c. c.world.journal) (λ (e : Entry). e.pass) (λ c. c.world.begun)
      basis pass old new
  acts_for_grow old pass (purposes.Act ask) answer new h = acts_grow old pass ask answer.acted new h
  acts_for_grow old pass purposes.Look answer new h = same_grown old new pass h.same
  acts_for_grow old pass (purposes.Find number) answer new h = same_grown old new pass h.same
  acts_for_grow old pass (purposes.Tend errand) answer new h = same_grown old new pass h
