-- A session that goes by one of two protocols, as the first byte says that its client sends: by that of lines,
-- or, where the byte is zero, by that of messages.
use Rattle.std.specs.Prelude.{◌≡◌, ◌≢◌, ◌≤◌, ◌⊎◌, ⊤, ℕ, ◌+◌, ◌^◌, List, [], ◌∷◌, length, true, Option, Some, None, Result, OnOk}
use Rattle.std.specs.Io.KnownBytes.{Consumes, Keeps, IsAtEnd}
use Rattle.base_core.specs.declared.name.User.{User}
use Rattle.lines_core.specs.Serving.{Traffic}
use Rattle.lines_core.specs.declared.serving.SessionFault.{SessionFault}
use Rattle.desk_core.specs.Guarded.{DeskLock}
use Rattle.session_core.specs.declared.admission.Admission.{Admission}
use Rattle.session_core.specs.Machines.{Protocol, Right, MachineState, first_state}
use Rattle.either_core.specs.declared.either_session.EitherSession.{EitherSession}
use Rattle.either_core.specs.declared.either_session.EitherSession.TheVariants as sessions

-- What a machine says of its sessions: how far one has come,
abbrev pub MachineCome : Type 0 → Type 0 → Type 1
MachineCome K S = DeskLock K → Admission → S → Traffic → Type 0

-- how one has ended,
abbrev pub MachineEnded : Type 0 → Type 0 → Type 1
MachineEnded K S = DeskLock K → Admission → S → Result (Unit {0}) SessionFault → Traffic → Type 0

-- and what may still be written of its last reply.
abbrev pub MachineOwes : Type 0 → Type 1
MachineOwes S = S → List ℕ → Type 0

-- there is a first byte, and it meets P, where the bytes are known
abbrev pub FirstIs : (ℕ → Type 0) → Option (List ℕ) → Type 0
FirstIs P None = ⊤
FirstIs P (Some []) = ⊥
FirstIs P (Some (byte ∷ bytes)) = P byte

-- the first byte that the client sends is not zero
abbrev pub ChoosesLines : Traffic → Type 0
ChoosesLines traffic = FirstIs (λ byte. byte ≢ 0) traffic.left

-- it is zero
abbrev pub ChoosesMessages : Traffic → Type 0
ChoosesMessages traffic = FirstIs (λ byte. byte ≡ 0) traffic.left

-- What was taken is still what had been taken; but nothing is said of it where it is known neither what had
-- been left nor what had been taken.
abbrev pub IsUnwritten : (left taken taken' : Option (List ℕ)) → Type 0
IsUnwritten None None taken' = ⊤
IsUnwritten left taken taken' = taken' ≡ taken

-- So far nothing was read, and nothing was written.
pub record HasSaidNothing (traffic : Traffic) : Type 0 where
  pub nothing_read : Keeps traffic.left traffic.left'
  pub nothing_written : IsUnwritten traffic.left traffic.taken traffic.taken'

-- It has ended so before anything was read, and nothing was written. It has ended well only where there was
-- nothing to read.
pub record EndsUnspoken (ending : Result (Unit {0}) SessionFault) (traffic : Traffic) : Type 0 where
  pub nothing_read : Keeps traffic.left traffic.left'
  pub nothing_written : Keeps traffic.taken traffic.taken'
  pub at_end : OnOk ending (IsAtEnd traffic.left')

-- What was read was dropped, and nothing was written; so many bytes may still come.
pub record DropsAll (unread : ℕ) (traffic : Traffic) : Type 0 where
  pub bytes : List ℕ
  pub count : length bytes + unread ≡ 2 ^ 32
  pub read : Consumes traffic.left traffic.left' bytes
  pub nothing_written : Keeps traffic.taken traffic.taken'

-- Whatever was read, it has no user, and nothing was written.
pub record AnswersNothing (user : Option User) (traffic : Traffic) : Type 0 where
  pub nobody : user ≡ None
  pub bytes : List ℕ
  pub bounded : length bytes ≤ 2 ^ 32
  pub read : Consumes traffic.left traffic.left' bytes
  pub nothing_written : Keeps traffic.taken traffic.taken'

-- It went by the protocol that its client's first byte chooses, or answered nothing.
abbrev pub SpeaksEither : {K : Type 0} → Protocol K → Protocol K → Protocol K
SpeaksEither lines messages desk admission user note traffic =
    (ChoosesLines traffic × lines desk admission user note traffic)
    ⊎ (ChoosesMessages traffic × messages desk admission user note traffic)
    ⊎ AnswersNothing user traffic

-- It was its user's by the right of the protocol that his first byte chooses.
abbrev pub HasComeByEither : Right → Right → Right
HasComeByEither lines messages admission traffic user =
    (ChoosesLines traffic × lines admission traffic user)
    ⊎ (ChoosesMessages traffic × messages admission traffic user)

module _ {K L M : Type 0} where
  -- what is known of it
  abbrev pub either_state : (L → MachineState K) → (M → MachineState K) → EitherSession K L M
      → MachineState K
  either_state lines messages (sessions.Unspoken note) = record first_state { note = note }
  either_state lines messages (sessions.Lines session) = lines session
  either_state lines messages (sessions.Messages session) = messages session
  either_state lines messages (sessions.Lost unread note) =
      record first_state { unread = unread; over = true; lost = true; note = note }

  -- how far it has come
  abbrev pub HasComeEither : MachineCome K L → MachineCome K M → MachineCome K (EitherSession K L M)
  HasComeEither lines messages desk admission (sessions.Unspoken _) traffic = HasSaidNothing traffic
  HasComeEither lines messages desk admission (sessions.Lines session) traffic =
      ChoosesLines traffic × lines desk admission session traffic
  HasComeEither lines messages desk admission (sessions.Messages session) traffic =
      ChoosesMessages traffic × messages desk admission session traffic
  HasComeEither lines messages desk admission (sessions.Lost unread _) traffic =
      DropsAll unread traffic

  -- how it has ended
  abbrev pub HasEndedEither : MachineEnded K L → MachineEnded K M
      → MachineEnded K (EitherSession K L M)
  HasEndedEither lines messages desk admission (sessions.Unspoken _) ending traffic =
      EndsUnspoken ending traffic
  HasEndedEither lines messages desk admission (sessions.Lines session) ending traffic =
      ChoosesLines traffic × lines desk admission session ending traffic
  HasEndedEither lines messages desk admission (sessions.Messages session) ending traffic =
      ChoosesMessages traffic × messages desk admission session ending traffic
  HasEndedEither lines messages desk admission (sessions.Lost unread _) ending traffic =
      DropsAll unread traffic

  -- what may still be written of its last reply: nothing, where nothing was answered
  abbrev pub OwesEither : MachineOwes L → MachineOwes M → MachineOwes (EitherSession K L M)
  OwesEither lines messages (sessions.Lines session) rest = lines session rest
  OwesEither lines messages (sessions.Messages session) rest = messages session rest
  OwesEither lines messages session rest = rest ≡ []
