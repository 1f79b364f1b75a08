-- Sessions between two pieces of what their clients send, whatever protocol they speak.
use Rattle.std.specs.Prelude.{◌≡◌, ◌<◌, ◌^◌, ℕ, List, Bool, true, false, if◌then◌else◌, Option, Some, None, Result, Ok, Err}
use Rattle.base_core.specs.declared.name.User.{User}
use Rattle.base_core.specs.declared.value.Moment.{Moment}
use Rattle.lines_core.specs.Serving.{Traffic}
use Rattle.lines_core.specs.declared.serving.SessionFault.{SessionFault}
use Rattle.lines_core.specs.declared.serving.SessionFault.TheVariants as faults
use Rattle.login_core.specs.Login.{Beginning}
use Rattle.desk_core.specs.Guarded.{DeskLock, DeskNote}
use Rattle.session_core.specs.declared.admission.Admission.{Admission}
use Rattle.session_core.specs.declared.session_end.SessionEnd.{SessionEnd}
use Rattle.session_core.specs.declared.session_end.SessionEnd.TheVariants as session_ends
use Rattle.session_core.specs.declared.summary.Summary.{Summary}
use Rattle.session_core.specs.Session.{end_of}

-- What a protocol says of its sessions, wherever they end: at this desk one that came by its user so, over
-- this traffic, has this user, and this is the note of what it has seen.
abbrev pub Protocol : Type 0 → Type 1
Protocol K = DeskLock K → Admission → Option User → Option (DeskNote K) → Traffic → Type 0

-- By what right sessions are their users': what has to be so of one that was admitted so, over this
-- traffic, where it is this user's.
abbrev pub Right : Type 1
Right = Admission → Traffic → User → Type 0

-- What is known of a session in any protocol: how many bytes may still come, the login that is under way,
-- its user, what is told of it, whether there was no memory for it, how many parts of the last reply are
-- owed, if any are, and the note of the pass that it went through last.
pub record MachineState (K : Type 0) : Type 0 where
  pub unread : ℕ
  pub begun : Option Beginning
  pub user : Option User
  pub over : Bool
  pub unkept : Bool
  pub answered : ℕ
  pub moment : Option Moment
  pub lost : Bool
  pub owed : Option ℕ
  pub note : Option (DeskNote K)

-- before the first piece
abbrev pub first_state : {K : Type 0} → MachineState K
first_state = record {
  unread = 2 ^ 32;
  begun = None;
  user = None;
  over = false;
  unkept = false;
  answered = 0;
  moment = None;
  lost = false;
  owed = None;
  note = None;
}

-- how a session ended in this state, if what it was sent was answered so: for want of memory, where there
-- was none for it
abbrev pub ending_of : {K : Type 0} → MachineState K → Result (Unit {0}) SessionFault
    → Result (Unit {0}) SessionEnd
ending_of state served =
    if state.lost
    then Err (session_ends.Session faults.NoMemory)
    else end_of state.unkept served

-- what is told of it then
abbrev pub summary_of : {K : Type 0} → MachineState K → Result (Unit {0}) SessionFault → Summary
summary_of state served = record {
  user = state.user;
  lines = state.answered;
  moment = state.moment;
  ended = ending_of state served;
}

-- less is owed than before, and nothing where nothing was
abbrev pub OwesLess : Option ℕ → Option ℕ → Type 0
OwesLess (Some before) (Some rest) = rest < before
OwesLess None (Some rest) = ⊥
OwesLess before None = Unit {0}

-- How a session may end where its client stops: it is over, the reader has failed, or as much was read as
-- may be.
abbrev pub MayStop : {K : Type 0} → MachineState K → Result (Unit {0}) SessionFault → Type 0
MayStop state (Ok x) = state.over ≡ true
MayStop state (Err faults.Read) = Unit {0}
MayStop state (Err faults.Bound) = state.unread ≡ 0
MayStop state (Err fault) = ⊥
