-- A session that is parked between two pieces of what its client sends, and goes on through any pass.
use Rattle.std.specs.Prelude.{◌≡◌, ◌≤◌, ◌⊎◌, ℕ, List, [], length, Bool, false, Option, Some, None, option_map, Result}
use Rattle.std.specs.Io.KnownBytes.{Appends}
use Rattle.std.specs.Str.Lines.{lines}
use Rattle.base_core.specs.declared.name.User.{User}
use Rattle.base_core.specs.declared.value.Moment.{Moment}
use Rattle.lines_core.specs.Lines.{whole_lines}
use Rattle.lines_core.specs.Feeding.{FeedingState, unfed}
use Rattle.lines_core.specs.Serving.{AnswersAll, HasServed, Ends, Traffic}
use Rattle.lines_core.specs.declared.serving.SessionFault.{SessionFault}
use Rattle.login_core.specs.Login.{Beginning}
use Rattle.reply_core.specs.Pending.{TellsPending, count_left}
use Rattle.reply_core.specs.declared.pending.Pending.{Pending}
use Rattle.turnstile.specs.Logs.{StartsWith}
use Rattle.desk_core.specs.Guarded.{DeskLock, DeskPass, DeskNote}
use Rattle.session_core.specs.declared.admission.Admission.{Admission}
use Rattle.session_core.specs.Gains.{Gains, Watches}
use Rattle.session_core.specs.Machines.{MachineState}
use Rattle.session_core.specs.Session.{SessionState, opened, is_over, AnswersSession}

-- What is kept of a session between two pieces, with what is owed of the last reply, and the note of the
-- pass that it went through last.
pub record ParkedState (K : Type 0) : Type 0 where
  pub feeding : FeedingState
  pub begun : Option Beginning
  pub user : Option User
  pub over : Bool
  pub unkept : Bool
  pub answered : ℕ
  pub moment : Option Moment
  pub owed : Option Pending
  pub note : Option (DeskNote K)

-- before the first piece
abbrev pub parked_first : {K : Type 0} → ParkedState K
parked_first = record {
  feeding = unfed;
  begun = None;
  user = None;
  over = false;
  unkept = false;
  answered = 0;
  moment = None;
  owed = None;
  note = None;
}

-- what of it is known of a session in any protocol
abbrev pub machine_state : {K : Type 0} → ParkedState K → MachineState K
machine_state parked = record {
  unread = parked.feeding.unread;
  begun = parked.begun;
  user = parked.user;
  over = parked.over;
  unkept = parked.unkept;
  answered = parked.answered;
  moment = parked.moment;
  lost = false;
  owed = option_map count_left parked.owed;
  note = parked.note;
}

-- this may still be written of the last reply
abbrev pub OwesReply : {K : Type 0} → ParkedState K → List ℕ → Type 0
OwesReply parked rest = TellsPending parked.owed rest

-- how far a session has come that goes on through this pass
abbrev pub resumed : {K : Type 0} → Admission → ParkedState K → DeskPass K → SessionState K
resumed admission parked pass = record {
  admission = admission;
  begun = parked.begun;
  user = parked.user;
  over = parked.over;
  unkept = parked.unkept;
  answered = parked.answered;
  moment = parked.moment;
  pass = pass;
}

-- what a session has seen that has gone through no pass
abbrev pub unseeing : {K : Type 0} → DeskPass K
unseeing = record { lock = None; number = 0; seen = []; mark = 0; turns = 0; drawn = 0 }

-- the pass is one of this desk, and has seen no less than this one had
abbrev pub SeesNoLess : {K : Type 0} → DeskLock K → DeskPass K → DeskPass K → Type 0
SeesNoLess desk before pass =
    (pass.lock ≡ Some desk) × StartsWith pass.seen before.seen × (before.mark ≤ pass.mark)

-- what the note of a session tells is no less than this pass had seen; without one it had seen nothing
abbrev pub NotesNoLess : {K : Type 0} → DeskLock K → DeskPass K → Option (DeskNote K) → Type 0
NotesNoLess desk before (Some note) =
    (note.lock ≡ Some desk) × StartsWith note.seen before.seen × (before.mark ≤ note.mark)
NotesNoLess desk before None = (before.seen ≡ []) × (before.mark ≡ 0)

-- the pass has seen what the note tells, if there is one
abbrev pub Meets : {K : Type 0} → DeskPass K → Option (DeskNote K) → Type 0
Meets pass (Some note) = StartsWith pass.seen note.seen × (note.mark ≤ pass.mark)
Meets pass None = Unit {0}

-- what a pass of this desk tells of itself
abbrev pub pass_note : {K : Type 0} → DeskLock K → DeskPass K → DeskNote K
pass_note desk pass = record { lock = Some desk; seen = pass.seen; mark = pass.mark }

-- A line of a session is answered through some pass of the desk, which has seen no less than the session.
pub record AnswersThrough {K : Type 0} (desk : DeskLock K) (old : SessionState K) (line text : List ℕ)
    (new : SessionState K) : Type 0 where
  pub pass : DeskPass K
  pub sees : SeesNoLess desk old.pass pass
  pub answered : AnswersSession desk (record old { pass = pass }) line text new

-- How far a parked session has come: once what is owed is written, its lines were answered one after
-- another, each through a pass that had seen no less than the session; of the rest the front is kept.
pub record HasCome {K : Type 0} (desk : DeskLock K) (admission : Admission) (parked : ParkedState K)
    (traffic : Traffic) : Type 0 where
  pub last : DeskPass K
  pub noted : NotesNoLess desk last parked.note
  pub written : (text : List ℕ) × Appends traffic.taken traffic.taken' text
  pub served : (rest : List ℕ) (later : Option (List ℕ)) → TellsPending parked.owed rest
      → Appends traffic.taken' later rest
      → HasServed (AnswersThrough desk) parked.feeding.line (opened admission unseeing)
      (resumed admission parked last) parked.feeding.unread (record traffic { taken' = later })

-- the same at its end, which was this one
pub record HasEnded {K : Type 0} (desk : DeskLock K) (admission : Admission) (parked : ParkedState K)
    (ending : Result (Unit {0}) SessionFault) (traffic : Traffic) : Type 0 where
  pub last : DeskPass K
  pub noted : NotesNoLess desk last parked.note
  pub ends : Ends (AnswersThrough desk) is_over ending (opened admission unseeing)
      (resumed admission parked last) traffic

-- The protocol of lines: such a session was parked between its pieces, and ended so, wherever that was.
pub record SpeaksLines {K : Type 0} (desk : DeskLock K) (admission : Admission) (user : Option User)
    (note : Option (DeskNote K)) (traffic : Traffic) : Type 0 where
  pub parked : ParkedState K
  pub ending : Result (Unit {0}) SessionFault
  pub ended : HasEnded desk admission parked ending traffic
  pub user_is : parked.user ≡ user
  pub note_is : parked.note ≡ note

-- what a pass has gained for a session: entries of its user, and nothing before he was welcome
abbrev pub GainsFor : {K : Type 0} → Option User → DeskPass K → DeskPass K → Type 0
GainsFor (Some user) old new = Gains user old new
GainsFor None old new = Watches old new
