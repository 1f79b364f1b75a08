-- What a client may be told of: where it is asked for, entries that are durable.
use Rattle.std.specs.Prelude.{◌≡◌, ℕ, List, length, Bool, true}
use Rattle.turnstile.specs.Logs.{StartsWith}
use Rattle.system_core.specs.declared.machine.event.Entry.{Entry}
use Rattle.journal_core.specs.declared.keeper.Keeper.{Ghosts}
use Rattle.desk_core.specs.Guarded.{DeskLock, Origin, origin_of}
use Rattle.desk_core.specs.Kept.{HasKept}

module _ {K : Type 0} (rules : Ghosts K) (durable : K → Type 0) where
  -- A keeper that had kept all these entries, and perhaps some behind them, was made durable.
  pub record IsDurable (origin : Origin K) (entries : List Entry) : Type 0 where
    pub later : List Entry
    pub keeper : K
    pub begins : StartsWith later entries
    pub kept : HasKept rules origin later keeper
    pub synced : durable keeper

  -- Of the entries that were seen so many of the first are durable.
  pub record HasSynced (origin : Origin K) (seen : List Entry) (count : ℕ) : Type 0 where
    pub front : List Entry
    pub begins : StartsWith seen front
    pub count_is : count ≡ length front
    pub synced : IsDurable origin front

  -- At this desk a client may be told of these entries: they are durable, if that is asked for.
  abbrev pub MayTell : Bool → DeskLock K → List Entry → Type 0
  MayTell asks desk entries = asks ≡ true → ∥ IsDurable (origin_of desk) entries ∥₁
