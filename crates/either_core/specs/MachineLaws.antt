-- The laws of a session machine, as its trait has them.
use Rattle.std.specs.Prelude.{◌≡◌, ℕ, List, [], Option, Some, None, Result, Err}
use Rattle.std.specs.Io.KnownBytes.{Appends}
use Rattle.base_core.specs.declared.name.User.{User}
use Rattle.lines_core.specs.Serving.{Traffic, traffic_of}
use Rattle.lines_core.specs.declared.serving.SessionFault.{SessionFault}
use Rattle.lines_core.specs.declared.serving.SessionFault.TheVariants as faults
use Rattle.desk_core.specs.Guarded.{DeskLock, DeskNote}
use Rattle.session_core.specs.declared.admission.Admission.{Admission}
use Rattle.session_core.specs.Machines.{Protocol, Right, MachineState, MayStop}
use Rattle.either_core.specs.Either.{MachineCome, MachineEnded, MachineOwes}

module _ {K S : Type 0} where
  -- a session may end wherever its client stops, once what it owes is written
  abbrev pub StopsLaw : (S → MachineState K) → MachineCome K S → MachineEnded K S → MachineOwes S → Type 0
  StopsLaw state come ended owes = (desk : DeskLock K) (admission : Admission) (session : S)
      (ending : Result (Unit {0}) SessionFault)
      (left left' taken taken' later : Option (List ℕ)) (rest : List ℕ)
      → come desk admission session (traffic_of left left' taken taken')
      → owes session rest
      → Appends taken' later rest
      → MayStop (state session) ending
      → ended desk admission session ending (traffic_of left left' taken later)

  -- where nothing is counted as owed, that is nothing
  abbrev pub SettledLaw : (S → MachineState K) → MachineOwes S → Type 0
  SettledLaw state owes = (session : S) (rest : List ℕ) → (state session).owed ≡ None → owes session rest
      → rest ≡ []

  -- where the client takes no more, what was written is a front of the answers
  abbrev pub BreaksLaw : MachineCome K S → MachineEnded K S → Type 0
  BreaksLaw come ended = (desk : DeskLock K) (admission : Admission) (session : S)
      (left left' taken taken' : Option (List ℕ))
      → come desk admission session (traffic_of left left' taken taken')
      → ended desk admission session (Err faults.Write) (traffic_of left left' taken taken')

  -- over streams of which nothing is known, what was written may be anything
  abbrev pub ComeUnseenLaw : MachineCome K S → Type 0
  ComeUnseenLaw come = (desk : DeskLock K) (admission : Admission) (session : S)
      (taken taken' : Option (List ℕ))
      → come desk admission session (traffic_of None None None taken)
      → come desk admission session (traffic_of None None None taken')

  -- the same at the end
  abbrev pub EndedUnseenLaw : MachineEnded K S → Type 0
  EndedUnseenLaw ended = (desk : DeskLock K) (admission : Admission) (session : S)
      (ending : Result (Unit {0}) SessionFault) (taken taken' : Option (List ℕ))
      → ended desk admission session ending (traffic_of None None None taken)
      → ended desk admission session ending (traffic_of None None None taken')

  -- however a session has ended, it is one of the protocol
  abbrev pub SpokenLaw : (S → MachineState K) → MachineEnded K S → Protocol K → Type 0
  SpokenLaw state ended protocol = (desk : DeskLock K) (admission : Admission) (session : S)
      (ending : Result (Unit {0}) SessionFault) (traffic : Traffic)
      → ended desk admission session ending traffic
      → protocol desk admission (state session).user (state session).note traffic

-- something may be written of what a session owes
abbrev pub PayableLaw : {S : Type 0} → MachineOwes S → Type 0
PayableLaw {S} owes = (session : S) → (rest : List ℕ) × owes session rest

-- whose session it is has come by right
abbrev pub RightfulLaw : {K : Type 0} → Protocol K → Right → Type 0
RightfulLaw {K} protocol right = (desk : DeskLock K) (admission : Admission) (user : User)
    (note : Option (DeskNote K)) (traffic : Traffic)
    → protocol desk admission (Some user) note traffic
    → right admission traffic user
