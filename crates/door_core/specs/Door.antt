-- The door at which sessions come in.
use Rattle.std.specs.Prelude.{◌≡◌, ◌<◌, ℕ, Option, Some, None}
use Rattle.door_core.specs.declared.door.Unmet.{Unmet}
use Rattle.door_core.specs.declared.door.Unmet.TheVariants as reasons
use Rattle.door_core.specs.declared.fault.ServeFault.TheVariants as faults
use Rattle.door_core.specs.declared.fault.Shut.{Shut}
use Rattle.door_core.specs.declared.fault.Shut.TheVariants as shuts

-- how many sessions were taken, how many are wanted, and why no more is taken
pub record Intake : Type 0 where
  pub taken : ℕ
  pub wanted : ℕ
  pub shut : Option Shut

-- a further session may be taken: it was not shut, and more are wanted
abbrev pub IsOpen : Intake → Type 0
IsOpen door = (door.shut ≡ None) × (door.taken < door.wanted)

-- what becomes of an open door where nobody came of a look for a client: it is shut if a listener is gone
abbrev pub after_look : Intake → Unmet → Intake
after_look door reasons.Nobody = door
after_look door reasons.Closed = record door { shut = Some (shuts.Fault faults.Accept) }
after_look door reasons.Failed = door
