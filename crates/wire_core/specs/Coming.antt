-- How far a session of messages has come, and how it ends.
use Rattle.std.specs.Prelude.{◌≡◌, ◌≤◌, ◌+◌, ◌^◌, ◌⊎◌, ℕ, true, List, [], ◌++◌, length, Option, Result, Ok, Err}
use Rattle.std.specs.Io.KnownBytes.{Appends, Consumes, IsAtEnd}
use Rattle.base_core.specs.Streams.{WritesFront}
use Rattle.base_core.specs.declared.name.User.{User}
use Rattle.lines_core.specs.Serving.{Traffic}
use Rattle.lines_core.specs.declared.serving.SessionFault.{SessionFault}
use Rattle.lines_core.specs.declared.serving.SessionFault.TheVariants as faults
use Rattle.desk_core.specs.Guarded.{DeskLock, DeskNote, DeskPass}
use Rattle.session_core.specs.Machines.{Protocol}
use Rattle.session_core.specs.Parking.{NotesNoLess}
use Rattle.session_core.specs.declared.admission.Admission.{Admission}
use Rattle.sending_core.specs.Owing.{IsOwed, Lefts, Owes}
use Rattle.wire_core.specs.State.{ClientState, IsFront, WireState, with_lefts}
use Rattle.wire_core.specs.Running.{HasRun, Takes}

-- A piece was fed through the pass: with what is kept it is still a front of a message, and is kept; or it is
-- a message, which is taken.
pub data IsFed {K : Type 0} (desk : DeskLock K) (admission : Admission) (old : WireState K)
    (before : DeskPass K) (piece : List ℕ) (new : WireState K) (after : DeskPass K) : Type 0 where
  held : new.kept ≡ old.kept ++ piece → new.client ≡ old.client → new.sending.items ≡ []
      → after ≡ before → IsFed desk admission old before piece new after
  answered : new.kept ≡ []
      → Takes desk admission old.client before (old.kept ++ piece) new.sending.items new.client after
      → IsFed desk admission old before piece new after

-- what may still be written of what is to be sent
abbrev pub OwesMessages : {K : Type 0} → WireState K → List ℕ → Type 0
OwesMessages wire rest = IsOwed wire.sending.items wire.client.talk.lefts rest

-- How far a session has come: once what is to be sent is written, all messages that came whole are answered;
-- of the last the front is kept.
pub record HasAnswered {K : Type 0} (desk : DeskLock K) (admission : Admission) (wire : WireState K)
    (traffic : Traffic) : Type 0 where
  pub last : DeskPass K
  pub noted : NotesNoLess desk last wire.note
  pub sent : List ℕ
  pub read : Consumes traffic.left traffic.left' (sent ++ wire.kept)
  pub counted : length (sent ++ wire.kept) + wire.unread ≡ 2 ^ 32
  pub front : IsFront wire.client wire.kept
  pub text : List ℕ
  pub wrote : Appends traffic.taken traffic.taken' text
  pub run : (rest : List ℕ) (lefts : Lefts)
      → Owes wire.sending.items wire.client.talk.lefts rest lefts
      → HasRun desk admission sent (text ++ rest) (with_lefts lefts wire.client) last

-- how a session may end that has come so far: it is over, or its client sends no more; the reader has failed;
-- as much was read as may be; or the writer has failed
abbrev pub MayEnd : {K : Type 0} → WireState K → Option (List ℕ) → List ℕ
    → Result (Unit {0}) SessionFault → Type 0
MayEnd wire left read (Ok x) = (wire.client.talk.over ≡ true) ⊎ IsAtEnd left
MayEnd wire left read (Err faults.Read) = Unit {0}
MayEnd wire left read (Err faults.Bound) = 2 ^ 32 ≤ length read
MayEnd wire left read (Err faults.Write) = Unit {0}
MayEnd wire left read (Err faults.NoMemory) = ⊥

-- what was written then: all answers, or a front of them where the writer has failed
abbrev pub WroteAt : Result (Unit {0}) SessionFault → Option (List ℕ) → Option (List ℕ) → List ℕ
    → Type 0
WroteAt (Err faults.Write) taken taken' text = WritesFront taken taken' text
WroteAt ending taken taken' text = Appends taken taken' text

-- How it has ended: all messages that came whole were answered, one after another, and of the last the front
-- is kept.
pub record HasStopped {K : Type 0} (desk : DeskLock K) (admission : Admission) (wire : WireState K)
    (ending : Result (Unit {0}) SessionFault) (traffic : Traffic) : Type 0 where
  pub last : DeskPass K
  pub noted : NotesNoLess desk last wire.note
  pub sent : List ℕ
  pub read : Consumes traffic.left traffic.left' (sent ++ wire.kept)
  pub may : MayEnd wire traffic.left' (sent ++ wire.kept) ending
  pub front : IsFront wire.client wire.kept
  pub text : List ℕ
  pub wrote : WroteAt ending traffic.taken traffic.taken' text
  pub lefts : Lefts
  pub run : HasRun desk admission sent text (with_lefts lefts wire.client) last

-- The protocol of messages: such a session was parked between its pieces, and ended so, wherever that was.
pub record SpeaksMessages {K : Type 0} (desk : DeskLock K) (admission : Admission)
    (user : Option User) (note : Option (DeskNote K)) (traffic : Traffic) : Type 0 where
  pub wire : WireState K
  pub ending : Result (Unit {0}) SessionFault
  pub ended : HasStopped desk admission wire ending traffic
  pub user_is : wire.client.user ≡ user
  pub note_is : wire.note ≡ note
