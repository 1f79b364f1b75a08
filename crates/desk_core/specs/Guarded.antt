-- What contracts see of the core as threads share it, and of a desk with its passes.
use Rattle.std.specs.Prelude.{ℕ, length}
use Rattle.std.specs.declared.snapshot.Snapshot.{Snapshot}
use Rattle.base_core.specs.declared.limits.Limits.{Limits}
use Rattle.turnstile.specs.Passes.{TurnstileState, PassState, Told}
use Rattle.system_core.specs.World.{World}
use Rattle.system_core.specs.declared.machine.event.Entry.{Entry}

-- What a desk was built on: the chunk and the limits of its core, how many entries the journal had, and
-- the keeper of the changes from then on, as it was handed in.
pub record Origin (K : Type 0) : Type 0 where
  pub chunk : ℕ
  pub limits : Limits
  pub front : ℕ
  pub keeper : K

-- a desk that is built on this world and this keeper
abbrev pub origin_at : {K : Type 0} → World → K → Origin K
origin_at w keeper =
    record { chunk = w.chunk; limits = w.limits; front = length w.journal; keeper = keeper }

-- A world, what its desk was built on, and the keeper of its changes as it is now.
pub record CoreState (K : Type 0) : Type 0 where
  pub world : World
  pub origin : Origin K
  pub keeper : K

abbrev pub snapshot : {T : Type 0} → T → Snapshot T
snapshot x = record { marker = record {}; value = x }

-- a turn lock round a core, whose fixed part is what it was built on
abbrev pub DeskLock : Type 0 → Type 0
DeskLock K = TurnstileState (Snapshot (Origin K))

-- a pass of a desk, and a note
abbrev pub DeskPass : Type 0 → Type 0
DeskPass K = PassState Entry (Snapshot (Origin K))

abbrev pub DeskNote : Type 0 → Type 0
DeskNote K = Told Entry (Snapshot (Origin K))

-- what the desk was built on
abbrev pub origin_of : {K : Type 0} → DeskLock K → Origin K
origin_of desk = desk.fixed.value
