-- Events that are carried out, and what they enter kept before their replies may be told.
-- A keeper's rules are as in Keeping.
use Rattle.std.specs.Prelude.{◌≡◌, ℕ, Bool, true, false, List, [], ◌∷◌}
use Rattle.reader_core.specs.Language.{Spells}
use Rattle.monitor_core.specs.Verdict.{is_change}
use Rattle.system_core.specs.World.{World}
use Rattle.system_core.specs.Step.{Step}
use Rattle.system_core.specs.Entering.{entered}
use Rattle.system_core.specs.declared.machine.event.Entry.{Entry}
use Rattle.system_core.specs.declared.machine.event.Event.{Event}
use Rattle.system_core.specs.declared.machine.event.Event.TheVariants as events
use Rattle.system_core.specs.declared.machine.event.Reply.{Reply}
use Rattle.journal_core.specs.declared.keeper.Keeper.{Ghosts}
use Rattle.journal_core.specs.Keeping.{KeepsAll}

-- a world, and the keeper of its changes
pub record WithKeeper (K : Type 0) : Type 0 where
  pub world : World
  pub keeper : K

abbrev pub with_keeper : {K : Type 0} → World → K → WithKeeper K
with_keeper world keeper = record { world = world; keeper = keeper }

-- what an entry says, as an event
abbrev pub event_of_entry : Entry → Event
event_of_entry e = events.Say e.pass e.user e.statement

-- some line spells the statement that is said
abbrev pub IsSpelledEvent : Event → Type 0
IsSpelledEvent (events.Say pass user asked) = (line : List ℕ) × Spells line asked
IsSpelledEvent _ = Unit {0}

-- whether a change is said
abbrev pub says_change : Event → Bool
says_change (events.Say pass user asked) = is_change asked
says_change _ = false

module _ {K : Type 0} (rules : Ghosts K) where
  -- what was owed is kept
  pub record Settles (old new : K) : Type 0 where
    pub owing : rules.owing new ≡ false
    pub keeps : (start : K) (e : Entry) → rules.owes start e old → rules.keeps start e new

  -- what is left of the same entry is owed still
  pub record OwesStill (old new : K) : Type 0 where
    pub owing : rules.owing new ≡ true
    pub owes : (start : K) (e : Entry) → rules.owes start e old → rules.owes start e new

  -- What becomes of a keeper that owes nothing as these entries, one at most, are entered, and whether
  -- the reply may be told: they are kept; or what is left of the one is owed.
  pub data KeepsNext (old : K) (entries : List Entry) : Bool → K → Type 0 where
    kept : {new : K}
        → rules.owing old ≡ false
        → rules.owing new ≡ false
        → KeepsAll rules.keeps old entries new
        → KeepsNext old entries true new
    owed : {new : K}
        → rules.owing old ≡ false
        → rules.owing new ≡ true
        → (e : Entry)
        → entries ≡ e ∷ []
        → rules.owes old e new
        → KeepsNext old entries false new

  -- What becomes of any keeper as these entries are entered, and whether the reply may be told: as of one
  -- that owes nothing; or what was owed is kept first; or nothing is entered, and it is owed still. Of
  -- such the reply may be told where the keeper was not asked.
  pub data KeepsEntered (old : K) (entries : List Entry) : Bool → K → Type 0 where
    next : {told : Bool} {new : K}
        → KeepsNext old entries told new
        → KeepsEntered old entries told new
    settled : {told : Bool} {mid new : K}
        → rules.owing old ≡ true
        → Settles old mid
        → KeepsNext mid entries told new
        → KeepsEntered old entries told new
    unasked : rules.owing old ≡ true → entries ≡ [] → KeepsEntered old entries true old
    unsettled : {new : K}
        → rules.owing old ≡ true
        → entries ≡ []
        → OwesStill old new
        → KeepsEntered old entries false new

  -- from old, the event may be answered by the reply and lead to new, as its entry is kept, and this is
  -- whether the reply may be told; only that to a change may not
  pub record StepsKept (old : WithKeeper K) (event : Event) (reply : Reply) (told : Bool)
      (new : WithKeeper K) : Type 0 where
    pub step : Step old.world event reply new.world
    pub keeping : KeepsEntered old.keeper (entered event reply) told new.keeper
    pub withheld : told ≡ false → says_change event ≡ true
