-- A session whose first byte has chosen may be fed it, and what comes with it.
use Rattle.std.proofs.Common.{◌≡◌, ◌≢◌, ℕ, ◌-◌, ◌<◌, ◌≤◌, List, [], ◌∷◌, ◌++◌, length, take, Option, Some, None, Ok, Err, sym, ◌∙◌, subst, arith, zero, suc, length-append}
use Rattle.std.proofs.Math.Seq.{take-length}
use Rattle.std.proofs.KnownBytes.{Consumes-trans}
use Rattle.std.specs.Prelude.{Result, IfOk, OnErr}
use Rattle.std.specs.Io.KnownBytes.{Consumes, Keeps}
use Rattle.lines_core.specs.Serving.{traffic_of}
use Rattle.lines_core.specs.declared.serving.SessionFault.TheVariants as faults
use Rattle.desk_core.specs.Guarded.{DeskLock}
use Rattle.session_core.specs.declared.admission.Admission.{Admission}
use Rattle.session_core.specs.Machines.{MachineState}
use Rattle.either_core.specs.Either.{MachineCome, MachineEnded, FirstIs, IsUnwritten, HasSaidNothing, DropsAll, HasComeEither, HasEndedEither}
use Rattle.either_core.specs.Choosing.{IsChosenBy, Chooses}
use Rattle.either_core.specs.MachineLaws.{ComeUnseenLaw}
use Rattle.either_core.specs.Stopping.{unwritten_keeps, keeps_consumes}
use Rattle.either_core.specs.declared.either_session.EitherSession.{EitherSession}
use Rattle.either_core.specs.declared.either_session.EitherSession.TheVariants as sessions

-- the first byte that was read is the first that was left
first_is : (P : ℕ → Type 0) (left left' left'' : Option (List ℕ)) (byte : ℕ) (bytes : List ℕ)
    → Keeps left left' → Consumes left' left'' (byte ∷ bytes) → P byte → FirstIs P left
first_is P None left' left'' byte bytes keeps read is = tt
first_is P (Some xs) None left'' byte bytes keeps read is = absurd keeps
first_is P (Some xs) (Some ys) None byte bytes keeps read is = absurd read
first_is P (Some xs) (Some ys) (Some zs) byte bytes keeps read is =
    subst (λ all. FirstIs P (Some all)) (sym read ∙ keeps) is

-- A new machine may be fed what was read where nothing had been read before, and nothing written.
taken_up : {K S : Type 0} (come : MachineCome K S) → ComeUnseenLaw come → (desk : DeskLock K) (admission : Admission) (session : S)
    → ((left taken : Option (List ℕ)) → come desk admission session (traffic_of left left taken taken))
    → (left left' left'' taken taken' : Option (List ℕ)) (bytes : List ℕ)
    → Keeps left left' → IsUnwritten left taken taken' → Consumes left' left'' bytes
    → (between : Option (List ℕ)) × come desk admission session (traffic_of left between taken taken') × Consumes between left'' bytes
taken_up come unseen desk admission session new None left' left'' None taken' bytes keeps same read =
    (None, unseen desk admission session None taken' (new None None), tt)
taken_up come unseen desk admission session new None left' left'' (Some a) taken' bytes keeps same read =
    (None, subst (λ t. come desk admission session (traffic_of None None (Some a) t)) (sym same) (new None (Some a)), tt)
taken_up come unseen desk admission session new (Some xs) None left'' taken taken' bytes keeps same read = absurd keeps
taken_up come unseen desk admission session new (Some xs) (Some ys) left'' taken taken' bytes keeps same read = (
  Some xs,
  subst (λ t. come desk admission session (traffic_of (Some xs) (Some xs) taken t)) (sym same) (new (Some xs) taken),
  subst (λ z. Consumes (Some z) left'' bytes) keeps read,
)

module _ {K L M : Type 0} (lines_state : L → MachineState K) (messages_state : M → MachineState K)
    (lines_come : MachineCome K L) (messages_come : MachineCome K M)
    (lines_unseen : ComeUnseenLaw lines_come) (messages_unseen : ComeUnseenLaw messages_come)
    (desk : DeskLock K) (admission : Admission) where
  -- The session has come so far that it may be fed what was read.
  pub record MayTake (session : EitherSession K L M) (left left'' taken taken' : Option (List ℕ)) (bytes : List ℕ) : Type 0 where
    pub between : Option (List ℕ)
    pub come : HasComeEither lines_come messages_come desk admission session (traffic_of left between taken taken')
    pub read : Consumes between left'' bytes

  module _ (left left' left'' taken taken' : Option (List ℕ)) where
    -- one for which nothing was chosen
    stays : (bytes : List ℕ) (old new : EitherSession K L M) → new ≡ old
        → HasComeEither lines_come messages_come desk admission old (traffic_of left left' taken taken')
        → Consumes left' left'' bytes → MayTake new left left'' taken taken' bytes
    stays bytes old new same come read = record {
      between = left';
      come = subst (λ s. HasComeEither lines_come messages_come desk admission s (traffic_of left left' taken taken')) (sym same) come;
      read = read;
    }

    -- one for which this byte chose
    begins : (first : ℕ) (bytes : List ℕ) (new : EitherSession K L M)
        → IsChosenBy lines_state messages_state lines_come messages_come first new
        → HasSaidNothing (traffic_of left left' taken taken')
        → Consumes left' left'' (first ∷ bytes) → MayTake new left left'' taken taken' (first ∷ bytes)
    begins first bytes (sessions.Unspoken _) chosen come read = absurd chosen
    begins first bytes (sessions.Lines session) chosen come read =
        let up = taken_up lines_come lines_unseen desk admission session (chosen.1.comes desk admission) left left' left'' taken taken' (first ∷ bytes) come.nothing_read come.nothing_written read in
        record { between = up.0; come = (first_is (λ byte. byte ≢ 0) left left' left'' first bytes come.nothing_read read chosen.0, up.1); read = up.2 }
    begins first bytes (sessions.Messages session) chosen come read =
        let up = taken_up messages_come messages_unseen desk admission session (chosen.1.comes desk admission) left left' left'' taken taken' (first ∷ bytes) come.nothing_read come.nothing_written read in
        record { between = up.0; come = (first_is (λ byte. byte ≡ 0) left left' left'' first bytes come.nothing_read read chosen.0, up.1); read = up.2 }
    begins first bytes (sessions.Lost unread _) chosen come read = record {
      between = left';
      come = record {
        bytes = [];
        count = omega (arith, chosen.0);
        read = keeps_consumes left left' come.nothing_read;
        nothing_written = unwritten_keeps left taken taken' come.nothing_written;
      };
      read = read;
    }

    -- Behind the choice a session may be fed a front of the piece, as it might before.
    pub chooses : (n : ℕ) (piece : List ℕ) (old new : EitherSession K L M)
        → Chooses lines_state messages_state lines_come messages_come piece old new
        → (0 < length piece → 0 < n)
        → HasComeEither lines_come messages_come desk admission old (traffic_of left left' taken taken')
        → Consumes left' left'' (take n piece)
        → MayTake new left left'' taken taken' (take n piece)
    chooses n [] old new is some come read = stays (take n []) old new is come read
    chooses n (first ∷ rest) (sessions.Lines session) new is some come read = stays (take n (first ∷ rest)) (sessions.Lines session) new is come read
    chooses n (first ∷ rest) (sessions.Messages session) new is some come read = stays (take n (first ∷ rest)) (sessions.Messages session) new is come read
    chooses n (first ∷ rest) (sessions.Lost unread note) new is some come read = stays (take n (first ∷ rest)) (sessions.Lost unread note) new is come read
    chooses zero (first ∷ rest) (sessions.Unspoken _) new is some come read = absurd (omega (arith, some (omega arith)))
    chooses (suc n) (first ∷ rest) (sessions.Unspoken _) new is some come read = begins first (take n rest) new is come read

    -- the same, of the whole piece
    pub chooses_whole : (piece : List ℕ) (old new : EitherSession K L M)
        → Chooses lines_state messages_state lines_come messages_come piece old new
        → HasComeEither lines_come messages_come desk admission old (traffic_of left left' taken taken')
        → Consumes left' left'' piece
        → MayTake new left left'' taken taken' piece
    chooses_whole piece old new is come read =
        let whole = take-length piece in
        subst (MayTake new left left'' taken taken') whole
        (chooses (length piece) piece old new is (λ some. some) come (subst (Consumes left' left'') (sym whole) read))

  -- What a machine does that is fed a piece: with what it took it has come on, or it has ended where the writer
  -- failed.
  module _ {S : Type 0} (come : MachineCome K S) (ended : MachineEnded K S) (old new : S) (piece : List ℕ) (before after : Option (List ℕ)) where
    abbrev pub ComesOn : ℕ → Type 0
    ComesOn n = (left left' left'' taken : Option (List ℕ))
        → come desk admission old (traffic_of left left' taken before)
        → Consumes left' left'' (take n piece)
        → come desk admission new (traffic_of left left'' taken after)

    abbrev pub BreaksOff : Type 0
    BreaksOff = (left left' left'' taken : Option (List ℕ))
        → come desk admission old (traffic_of left left' taken before)
        → Consumes left' left'' piece
        → ended desk admission new (Err faults.Write) (traffic_of left left'' taken after)

  -- What the machine does that the piece chose, or that was chosen before, the session does.
  module _ (lines_ended : MachineEnded K L) (messages_ended : MachineEnded K M)
      (old : EitherSession K L M) (piece : List ℕ) (before after : Option (List ℕ)) where
    abbrev EitherComesOn : EitherSession K L M → ℕ → Type 0
    EitherComesOn new n = ComesOn (HasComeEither lines_come messages_come) (HasEndedEither lines_ended messages_ended) old new piece before after n

    abbrev EitherBreaksOff : EitherSession K L M → Type 0
    EitherBreaksOff new = BreaksOff (HasComeEither lines_come messages_come) (HasEndedEither lines_ended messages_ended) old new piece before after

    module _ (session next : L) (chosen : Chooses lines_state messages_state lines_come messages_come piece old (sessions.Lines session)) where
      pub lines_come_on : {E : Type 0} (result : Result ℕ E) → IfOk result (λ n. 0 < length piece → 0 < n)
          → IfOk result (ComesOn lines_come lines_ended session next piece before after)
          → IfOk result (EitherComesOn (sessions.Lines next))
      lines_come_on (Ok n) some on = λ left left' left'' taken come read.
          let now = chooses left left' left'' taken before n piece old (sessions.Lines session) chosen some come read in
          (now.come.0, on left now.between left'' taken now.come.1 now.read)
      lines_come_on (Err e) some on = tt

      pub lines_break_off : {E : Type 0} (result : Result ℕ E) → OnErr result (BreaksOff lines_come lines_ended session next piece before after)
          → OnErr result (EitherBreaksOff (sessions.Lines next))
      lines_break_off (Ok n) off = tt
      lines_break_off (Err e) off = λ left left' left'' taken come read.
          let now = chooses_whole left left' left'' taken before piece old (sessions.Lines session) chosen come read in
          (now.come.0, off left now.between left'' taken now.come.1 now.read)

    module _ (session next : M) (chosen : Chooses lines_state messages_state lines_come messages_come piece old (sessions.Messages session)) where
      pub messages_come_on : {E : Type 0} (result : Result ℕ E) → IfOk result (λ n. 0 < length piece → 0 < n)
          → IfOk result (ComesOn messages_come messages_ended session next piece before after)
          → IfOk result (EitherComesOn (sessions.Messages next))
      messages_come_on (Ok n) some on = λ left left' left'' taken come read.
          let now = chooses left left' left'' taken before n piece old (sessions.Messages session) chosen some come read in
          (now.come.0, on left now.between left'' taken now.come.1 now.read)
      messages_come_on (Err e) some on = tt

      pub messages_break_off : {E : Type 0} (result : Result ℕ E) → OnErr result (BreaksOff messages_come messages_ended session next piece before after)
          → OnErr result (EitherBreaksOff (sessions.Messages next))
      messages_break_off (Ok n) off = tt
      messages_break_off (Err e) off = λ left left' left'' taken come read.
          let now = chooses_whole left left' left'' taken before piece old (sessions.Messages session) chosen come read in
          (now.come.0, off left now.between left'' taken now.come.1 now.read)

-- what comes on top of what is dropped is dropped too
pub drops_more : (unread : ℕ) (left left' left'' taken taken' : Option (List ℕ)) (bytes : List ℕ)
    → length bytes ≤ unread
    → DropsAll unread (traffic_of left left' taken taken')
    → Consumes left' left'' bytes
    → DropsAll (unread - length bytes) (traffic_of left left'' taken taken')
drops_more unread left left' left'' taken taken' bytes room drops read = record {
  bytes = drops.bytes ++ bytes;
  count = omega (arith, length-append drops.bytes bytes, drops.count, room);
  read = Consumes-trans left left' left'' drops.bytes bytes drops.read read;
  nothing_written = drops.nothing_written;
}

-- nothing is read where nothing more comes
pub still_kept : (left left' left'' : Option (List ℕ)) → Keeps left left' → Consumes left' left'' [] → Keeps left left''
still_kept None left' left'' keeps read = tt
still_kept (Some xs) None left'' keeps read = absurd keeps
still_kept (Some xs) (Some ys) None keeps read = absurd read
still_kept (Some xs) (Some ys) (Some zs) keeps read = sym read ∙ keeps
