-- How a session takes up the protocol that its client's first byte chooses.
use Rattle.std.specs.Prelude.{◌≡◌, ◌≢◌, ℕ, ◌^◌, List, ◌∷◌, Option, None}
use Rattle.lines_core.specs.Serving.{traffic_of}
use Rattle.desk_core.specs.Guarded.{DeskLock}
use Rattle.session_core.specs.declared.admission.Admission.{Admission}
use Rattle.session_core.specs.Machines.{MachineState, first_state}
use Rattle.either_core.specs.Either.{MachineCome}
use Rattle.either_core.specs.declared.either_session.EitherSession.{EitherSession}
use Rattle.either_core.specs.declared.either_session.EitherSession.TheVariants as sessions

-- Nothing has come of it yet: it may be fed by anyone, from any reader, and answer to any writer.
pub record IsUnfed {K S : Type 0} (state : S → MachineState K) (come : MachineCome K S) (session : S)
    : Type 0 where
  pub first : state session ≡ first_state
  pub comes : (desk : DeskLock K) (admission : Admission) (left taken : Option (List ℕ))
      → come desk admission session (traffic_of left left taken taken)

module _ {K L M : Type 0} (lines_state : L → MachineState K) (messages_state : M → MachineState K)
    (lines_come : MachineCome K L) (messages_come : MachineCome K M) where
  -- a session of the protocol that this byte chooses, which was not fed even that; or it is lost
  abbrev pub IsChosenBy : ℕ → EitherSession K L M → Type 0
  IsChosenBy first (sessions.Unspoken _) = ⊥
  IsChosenBy first (sessions.Lines session) =
      (first ≢ 0) × IsUnfed lines_state lines_come session
  IsChosenBy first (sessions.Messages session) =
      (first ≡ 0) × IsUnfed messages_state messages_come session
  IsChosenBy first (sessions.Lost unread note) = (unread ≡ 2 ^ 32) × (note ≡ None)

  -- The first byte of a piece chooses, where nothing had come before and there is one. Otherwise the session
  -- stays as it is.
  abbrev pub Chooses : List ℕ → EitherSession K L M → EitherSession K L M → Type 0
  Chooses (first ∷ rest) (sessions.Unspoken _) new = IsChosenBy first new
  Chooses piece old new = new ≡ old
