-- The laws of a session of either protocol follow from those of both machines.
use Rattle.std.specs.Prelude.{◌≡◌, ℕ, List, [], ◌++◌, Option, Some, None, Ok, Err}
use Rattle.std.specs.Io.KnownBytes.{Appends, Consumes, Keeps}
use Rattle.std.proofs.Common.{refl, sym, ap, ◌∙◌, subst, inl, inr, append-nil, arith}
use Rattle.std.proofs.lemmas.Bool.{false≢true}
use Rattle.std.proofs.lemmas.Option.{none-some}
use Rattle.session_core.specs.Machines.{Protocol, Right, MachineState}
use Rattle.either_core.specs.Either.{MachineCome, MachineEnded, MachineOwes, IsUnwritten, SpeaksEither, HasComeByEither, either_state, HasComeEither, HasEndedEither, OwesEither}
use Rattle.either_core.specs.MachineLaws.{StopsLaw, PayableLaw, SettledLaw, BreaksLaw, ComeUnseenLaw, EndedUnseenLaw, SpokenLaw, RightfulLaw}
use Rattle.either_core.specs.declared.either_session.EitherSession.TheVariants as sessions

-- a writer that was not written to keeps what it had
pub unwritten_keeps : (left taken taken' : Option (List ℕ)) → IsUnwritten left taken taken' → Keeps taken taken'
unwritten_keeps None None taken' same = tt
unwritten_keeps (Some xs) None taken' same = tt
unwritten_keeps None (Some a) taken' same = subst (Keeps (Some a)) (sym same) refl
unwritten_keeps (Some xs) (Some a) taken' same = subst (Keeps (Some a)) (sym same) refl

-- where nothing was read, no bytes were
pub keeps_consumes : (left left' : Option (List ℕ)) → Keeps left left' → Consumes left left' []
keeps_consumes None left' keeps = tt
keeps_consumes (Some xs) None keeps = absurd keeps
keeps_consumes (Some xs) (Some ys) keeps = sym keeps

-- nothing was written, and nothing behind it
pub kept_on : (taken taken' later : Option (List ℕ)) (rest : List ℕ) → Keeps taken taken'
    → rest ≡ [] → Appends taken' later rest → Keeps taken later
kept_on None taken' later rest keeps nothing wrote = tt
kept_on (Some a) None later rest keeps nothing wrote = absurd keeps
kept_on (Some a) (Some b) None rest keeps nothing wrote = absurd wrote
kept_on (Some a) (Some b) (Some c) rest keeps nothing wrote =
    wrote ∙ (ap (λ t. b ++ t) nothing ∙ (append-nil b ∙ keeps))

module _ {K L M : Type 0} where
  module _ (lines_state : L → MachineState K) (messages_state : M → MachineState K)
      (lines_come : MachineCome K L) (messages_come : MachineCome K M)
      (lines_ended : MachineEnded K L) (messages_ended : MachineEnded K M)
      (lines_owes : MachineOwes L) (messages_owes : MachineOwes M) where
    pub HasComeEither-stops : StopsLaw lines_state lines_come lines_ended lines_owes
        → StopsLaw messages_state messages_come messages_ended messages_owes
        → StopsLaw (either_state lines_state messages_state) (HasComeEither lines_come messages_come)
        (HasEndedEither lines_ended messages_ended) (OwesEither lines_owes messages_owes)
    HasComeEither-stops lines messages desk admission (sessions.Unspoken _) (Ok x) left left' taken taken' later rest come owes wrote may =
        absurd (false≢true may)
    HasComeEither-stops lines messages desk admission (sessions.Unspoken _) (Err fault) left left' taken taken' later rest come owes wrote may =
        record {
          nothing_read = come.nothing_read;
          nothing_written = kept_on taken taken' later rest (unwritten_keeps left taken taken' come.nothing_written) owes wrote;
          at_end = tt;
        }
    HasComeEither-stops lines messages desk admission (sessions.Lines session) ending left left' taken taken' later rest come owes wrote may =
        (come.0, lines desk admission session ending left left' taken taken' later rest come.1 owes wrote may)
    HasComeEither-stops lines messages desk admission (sessions.Messages session) ending left left' taken taken' later rest come owes wrote may =
        (come.0, messages desk admission session ending left left' taken taken' later rest come.1 owes wrote may)
    HasComeEither-stops lines messages desk admission (sessions.Lost unread _) ending left left' taken taken' later rest come owes wrote may =
        record {
          bytes = come.bytes;
          count = come.count;
          read = come.read;
          nothing_written = kept_on taken taken' later rest come.nothing_written owes wrote;
        }

  module _ (lines_owes : MachineOwes L) (messages_owes : MachineOwes M) where
    pub OwesEither-payable : PayableLaw lines_owes → PayableLaw messages_owes → PayableLaw (OwesEither {K = K} lines_owes messages_owes)
    OwesEither-payable lines messages (sessions.Unspoken _) = ([], refl)
    OwesEither-payable lines messages (sessions.Lines session) = lines session
    OwesEither-payable lines messages (sessions.Messages session) = messages session
    OwesEither-payable lines messages (sessions.Lost _ _) = ([], refl)

  module _ (lines_state : L → MachineState K) (messages_state : M → MachineState K)
      (lines_owes : MachineOwes L) (messages_owes : MachineOwes M) where
    pub OwesEither-settled : SettledLaw lines_state lines_owes → SettledLaw messages_state messages_owes
        → SettledLaw (either_state lines_state messages_state) (OwesEither lines_owes messages_owes)
    OwesEither-settled lines messages (sessions.Unspoken _) rest none owes = owes
    OwesEither-settled lines messages (sessions.Lines session) rest none owes = lines session rest none owes
    OwesEither-settled lines messages (sessions.Messages session) rest none owes = messages session rest none owes
    OwesEither-settled lines messages (sessions.Lost _ _) rest none owes = owes

  module _ (lines_come : MachineCome K L) (messages_come : MachineCome K M)
      (lines_ended : MachineEnded K L) (messages_ended : MachineEnded K M) where
    pub HasComeEither-breaks : BreaksLaw lines_come lines_ended → BreaksLaw messages_come messages_ended
        → BreaksLaw (HasComeEither lines_come messages_come) (HasEndedEither lines_ended messages_ended)
    HasComeEither-breaks lines messages desk admission (sessions.Unspoken _) left left' taken taken' come = record {
      nothing_read = come.nothing_read;
      nothing_written = unwritten_keeps left taken taken' come.nothing_written;
      at_end = tt;
    }
    HasComeEither-breaks lines messages desk admission (sessions.Lines session) left left' taken taken' come =
        (come.0, lines desk admission session left left' taken taken' come.1)
    HasComeEither-breaks lines messages desk admission (sessions.Messages session) left left' taken taken' come =
        (come.0, messages desk admission session left left' taken taken' come.1)
    HasComeEither-breaks lines messages desk admission (sessions.Lost _ _) left left' taken taken' come = come

  module _ (lines_come : MachineCome K L) (messages_come : MachineCome K M) where
    pub HasComeEither-unseen : ComeUnseenLaw lines_come → ComeUnseenLaw messages_come
        → ComeUnseenLaw (HasComeEither lines_come messages_come)
    HasComeEither-unseen lines messages desk admission (sessions.Unspoken _) taken taken' come =
        record { nothing_read = tt; nothing_written = tt }
    HasComeEither-unseen lines messages desk admission (sessions.Lines session) taken taken' come =
        (tt, lines desk admission session taken taken' come.1)
    HasComeEither-unseen lines messages desk admission (sessions.Messages session) taken taken' come =
        (tt, messages desk admission session taken taken' come.1)
    HasComeEither-unseen lines messages desk admission (sessions.Lost _ _) taken taken' come =
        record { bytes = come.bytes; count = come.count; read = tt; nothing_written = tt }

  module _ (lines_ended : MachineEnded K L) (messages_ended : MachineEnded K M) where
    pub HasEndedEither-unseen : EndedUnseenLaw lines_ended → EndedUnseenLaw messages_ended
        → EndedUnseenLaw (HasEndedEither lines_ended messages_ended)
    HasEndedEither-unseen lines messages desk admission (sessions.Unspoken _) ending taken taken' ended =
        record { nothing_read = tt; nothing_written = tt; at_end = ended.at_end }
    HasEndedEither-unseen lines messages desk admission (sessions.Lines session) ending taken taken' ended =
        (tt, lines desk admission session ending taken taken' ended.1)
    HasEndedEither-unseen lines messages desk admission (sessions.Messages session) ending taken taken' ended =
        (tt, messages desk admission session ending taken taken' ended.1)
    HasEndedEither-unseen lines messages desk admission (sessions.Lost _ _) ending taken taken' ended =
        record { bytes = ended.bytes; count = ended.count; read = tt; nothing_written = tt }

  module _ (lines_state : L → MachineState K) (messages_state : M → MachineState K)
      (lines_ended : MachineEnded K L) (messages_ended : MachineEnded K M)
      (lines_protocol : Protocol K) (messages_protocol : Protocol K) where
    pub HasEndedEither-spoken : SpokenLaw lines_state lines_ended lines_protocol
        → SpokenLaw messages_state messages_ended messages_protocol
        → SpokenLaw (either_state lines_state messages_state) (HasEndedEither lines_ended messages_ended)
        (SpeaksEither lines_protocol messages_protocol)
    HasEndedEither-spoken lines messages desk admission (sessions.Unspoken _) ending traffic ended = inr (inr (record {
      nobody = refl;
      bytes = [];
      bounded = omega arith;
      read = keeps_consumes traffic.left traffic.left' ended.nothing_read;
      nothing_written = ended.nothing_written;
    }))
    HasEndedEither-spoken lines messages desk admission (sessions.Lines session) ending traffic ended =
        inl (ended.0, lines desk admission session ending traffic ended.1)
    HasEndedEither-spoken lines messages desk admission (sessions.Messages session) ending traffic ended =
        inr (inl (ended.0, messages desk admission session ending traffic ended.1))
    HasEndedEither-spoken lines messages desk admission (sessions.Lost unread _) ending traffic ended = inr (inr (record {
      nobody = refl;
      bytes = ended.bytes;
      bounded = omega (arith, ended.count);
      read = ended.read;
      nothing_written = ended.nothing_written;
    }))

module _ {K : Type 0} (lines_protocol : Protocol K) (messages_protocol : Protocol K)
    (lines_right : Right) (messages_right : Right) where
  pub SpeaksEither-rightful : RightfulLaw lines_protocol lines_right → RightfulLaw messages_protocol messages_right
      → RightfulLaw (SpeaksEither lines_protocol messages_protocol) (HasComeByEither lines_right messages_right)
  SpeaksEither-rightful lines messages desk admission user seen traffic (inl spoken) =
      inl (spoken.0, lines desk admission user seen traffic spoken.1)
  SpeaksEither-rightful lines messages desk admission user seen traffic (inr (inl spoken)) =
      inr (spoken.0, messages desk admission user seen traffic spoken.1)
  SpeaksEither-rightful lines messages desk admission user seen traffic (inr (inr nothing)) =
      absurd (none-some _ (sym nothing.nobody))
