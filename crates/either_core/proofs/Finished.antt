-- What the chosen machine does at the end of what its client sends, the session does.
use Rattle.std.proofs.Common.{◌≡◌, ℕ, List, [], Option, Ok, Err, sym, subst}
use Rattle.std.specs.Prelude.{Result, OnOk, OnErr}
use Rattle.std.specs.Io.KnownBytes.{Appends, Consumes, IsAtEnd}
use Rattle.lines_core.specs.Serving.{traffic_of}
use Rattle.lines_core.specs.declared.serving.SessionFault.TheVariants as faults
use Rattle.desk_core.specs.Guarded.{DeskLock}
use Rattle.session_core.specs.declared.admission.Admission.{Admission}
use Rattle.either_core.specs.Either.{MachineCome, MachineEnded, MachineOwes, HasComeEither, HasEndedEither, OwesEither}
use Rattle.either_core.specs.declared.either_session.EitherSession.{EitherSession}
use Rattle.either_core.specs.declared.either_session.EitherSession.TheVariants as sessions

module _ {K : Type 0} (desk : DeskLock K) (admission : Admission) (before after : Option (List ℕ)) where
  -- What a machine does at the end: once what it owes is written it has ended well, or it has ended where the
  -- writer failed.
  module _ {S : Type 0} (come : MachineCome K S) (ended : MachineEnded K S) (owes : MachineOwes S) (old new : S) where
    abbrev pub EndsWell : Type 0
    EndsWell = (left left' left'' taken later : Option (List ℕ)) (rest : List ℕ)
        → come desk admission old (traffic_of left left' taken before)
        → Consumes left' left'' [] → IsAtEnd left''
        → owes new rest → Appends after later rest
        → ended desk admission new (Ok tt) (traffic_of left left'' taken later)

    abbrev pub EndsBroken : Type 0
    EndsBroken = (left left' left'' taken : Option (List ℕ))
        → come desk admission old (traffic_of left left' taken before)
        → Consumes left' left'' [] → IsAtEnd left''
        → ended desk admission new (Err faults.Write) (traffic_of left left'' taken after)

  module _ {L M : Type 0} (lines_come : MachineCome K L) (messages_come : MachineCome K M)
      (lines_ended : MachineEnded K L) (messages_ended : MachineEnded K M)
      (lines_owes : MachineOwes L) (messages_owes : MachineOwes M) where
    abbrev EitherEndsWell : EitherSession K L M → EitherSession K L M → Type 0
    EitherEndsWell = EndsWell (HasComeEither lines_come messages_come) (HasEndedEither lines_ended messages_ended) (OwesEither lines_owes messages_owes)

    abbrev EitherEndsBroken : EitherSession K L M → EitherSession K L M → Type 0
    EitherEndsBroken = EndsBroken (HasComeEither lines_come messages_come) (HasEndedEither lines_ended messages_ended) (OwesEither lines_owes messages_owes)

    lines_well : (session next : L) {E : Type 0} (result : Result (Unit {0}) E)
        → OnOk result (EndsWell lines_come lines_ended lines_owes session next)
        → OnOk result (EitherEndsWell (sessions.Lines session) (sessions.Lines next))
    lines_well session next (Ok x) ends = λ left left' left'' taken later rest come read end owes wrote.
        (come.0, ends left left' left'' taken later rest come.1 read end owes wrote)
    lines_well session next (Err e) ends = tt

    lines_broken : (session next : L) {E : Type 0} (result : Result (Unit {0}) E)
        → OnErr result (EndsBroken lines_come lines_ended lines_owes session next)
        → OnErr result (EitherEndsBroken (sessions.Lines session) (sessions.Lines next))
    lines_broken session next (Ok x) ends = tt
    lines_broken session next (Err e) ends = λ left left' left'' taken come read end. (come.0, ends left left' left'' taken come.1 read end)

    messages_well : (session next : M) {E : Type 0} (result : Result (Unit {0}) E)
        → OnOk result (EndsWell messages_come messages_ended messages_owes session next)
        → OnOk result (EitherEndsWell (sessions.Messages session) (sessions.Messages next))
    messages_well session next (Ok x) ends = λ left left' left'' taken later rest come read end owes wrote.
        (come.0, ends left left' left'' taken later rest come.1 read end owes wrote)
    messages_well session next (Err e) ends = tt

    messages_broken : (session next : M) {E : Type 0} (result : Result (Unit {0}) E)
        → OnErr result (EndsBroken messages_come messages_ended messages_owes session next)
        → OnErr result (EitherEndsBroken (sessions.Messages session) (sessions.Messages next))
    messages_broken session next (Ok x) ends = tt
    messages_broken session next (Err e) ends = λ left left' left'' taken come read end. (come.0, ends left left' left'' taken come.1 read end)

    module _ (old : EitherSession K L M) {E : Type 0} (result : Result (Unit {0}) E) where
      pub lines_end_well : (session next : L) → old ≡ sessions.Lines session
          → OnOk result (EndsWell lines_come lines_ended lines_owes session next)
          → OnOk result (EitherEndsWell old (sessions.Lines next))
      lines_end_well session next is ends =
          subst (λ s. OnOk result (EitherEndsWell s (sessions.Lines next))) (sym is) (lines_well session next result ends)

      pub lines_end_broken : (session next : L) → old ≡ sessions.Lines session
          → OnErr result (EndsBroken lines_come lines_ended lines_owes session next)
          → OnErr result (EitherEndsBroken old (sessions.Lines next))
      lines_end_broken session next is ends =
          subst (λ s. OnErr result (EitherEndsBroken s (sessions.Lines next))) (sym is) (lines_broken session next result ends)

      pub messages_end_well : (session next : M) → old ≡ sessions.Messages session
          → OnOk result (EndsWell messages_come messages_ended messages_owes session next)
          → OnOk result (EitherEndsWell old (sessions.Messages next))
      messages_end_well session next is ends =
          subst (λ s. OnOk result (EitherEndsWell s (sessions.Messages next))) (sym is) (messages_well session next result ends)

      pub messages_end_broken : (session next : M) → old ≡ sessions.Messages session
          → OnErr result (EndsBroken messages_come messages_ended messages_owes session next)
          → OnErr result (EitherEndsBroken old (sessions.Messages next))
      messages_end_broken session next is ends =
          subst (λ s. OnErr result (EitherEndsBroken s (sessions.Messages next))) (sym is) (messages_broken session next result ends)
