-- How a session of lines ends wherever its client stops.
use Rattle.std.specs.Prelude.{◌≡◌, ◌⊎◌, ℕ, List, [], ◌++◌, Option, Some, None, Result, Ok, Err, option_map}
use Rattle.std.specs.Option.{is_some}
use Rattle.std.specs.Io.KnownBytes.{Appends}
use Rattle.std.specs.Str.Lines.{lines}
use Rattle.std.proofs.Common.{refl, sym, ap, ◌∙◌, inl, inr, append_assoc, arith}
use Rattle.std.proofs.KnownBytes.{Appends-nil, Appends-trans, Keeps-refl}
use Rattle.std.proofs.lemmas.Bool.{false≢true}
use Rattle.std.proofs.lemmas.List.{append_cancel_left}
use Rattle.base_core.specs.Streams.{WritesFront}
use Rattle.lines_core.specs.declared.serving.SessionFault.{SessionFault}
use Rattle.lines_core.specs.declared.serving.SessionFault.TheVariants as faults
use Rattle.lines_core.specs.Lines.{whole_lines}
use Rattle.lines_core.specs.Serving.{AnswersInput, HasServed, Ends, Traffic, traffic_of}
use Rattle.lines_core.proofs.ServeLemmas.{BrokenRun-front, Run-whole}
use Rattle.reply_core.specs.Pending.{TellsPending, count_left}
use Rattle.reply_core.specs.declared.pending.Pending.{Pending}
use Rattle.reply_core.proofs.PendingLemmas.{some_pending}
use Rattle.desk_core.specs.Guarded.{DeskLock}
use Rattle.session_core.specs.declared.admission.Admission.{Admission}
use Rattle.session_core.specs.Session.{SessionState, opened, is_over}
use Rattle.session_core.specs.Machines.{MayStop}
use Rattle.session_core.specs.Parking.{ParkedState, machine_state, resumed, unseeing, AnswersThrough, HasCome, HasEnded, SpeaksLines, OwesReply}
use Rattle.session_core.specs.TooLong.{AnswersThrough-too_long}

-- what a writer may have taken, once this was written
pub written_on : (taken : Option (List ℕ)) (text : List ℕ)
    → (later : Option (List ℕ)) × Appends taken later text
written_on None text = (None, tt)
written_on (Some a) text = (Some (a ++ text), refl)

-- a front of the rest is a front of all behind what was written
front_of_all : (taken0 taken1 later taken2 : Option (List ℕ)) (text rest all : List ℕ)
    → Appends taken0 taken1 text
    → Appends taken1 later rest
    → Appends taken0 later all
    → WritesFront taken1 taken2 rest
    → WritesFront taken0 taken2 all
front_of_all None taken1 later taken2 text rest all first second whole wrote =
    record { part = []; unwritten = all; front = refl; wrote = tt }
front_of_all (Some a) None later taken2 text rest all first second whole wrote = absurd first
front_of_all (Some a) (Some b) None taken2 text rest all first second whole wrote = absurd second
front_of_all (Some a) (Some b) (Some c) taken2 text rest all first second whole wrote =
    let both : a ++ all ≡ a ++ (text ++ rest) = sym whole ∙ (second ∙ (ap (λ t. t ++ rest) first ∙ append_assoc a text rest)) in
    let is : all ≡ text ++ rest = append_cancel_left a all (text ++ rest) both in record {
      part = text ++ wrote.part;
      unwritten = wrote.unwritten;
      front = is ∙ (ap (λ t. text ++ t) wrote.front ∙ sym (append_assoc text wrote.part wrote.unwritten));
      wrote = Appends-trans (Some a) (Some b) taken2 text wrote.part first wrote.wrote;
    }

module _ {K : Type 0} (desk : DeskLock K) (admission : Admission) (parked : ParkedState K) where
  module _ (left0 left1 taken0 taken1 : Option (List ℕ)) where
    -- its whole lines are answered, once what is owed is written
    module _ (later : Option (List ℕ)) (rest : List ℕ)
        (come : HasCome desk admission parked (traffic_of left0 left1 taken0 taken1))
        (told : TellsPending parked.owed rest)
        (wrote : Appends taken1 later rest) where
      so_far : HasServed (AnswersThrough desk) parked.feeding.line (opened admission unseeing) (resumed admission parked come.last) parked.feeding.unread (traffic_of left0 left1 taken0 later)
      so_far = come.served rest later told wrote

      whole : AnswersInput (AnswersThrough desk) whole_lines (opened admission unseeing) (resumed admission parked come.last) (traffic_of left0 left1 taken0 later) so_far.bytes
      whole = Run-whole (AnswersThrough desk) (AnswersThrough-too_long desk) parked.feeding.line (opened admission unseeing) (resumed admission parked come.last) parked.feeding.unread left0 left1 left1 taken0 later so_far (Keeps-refl left1)

      pub stopped : (ending : Result (Unit {0}) SessionFault) → MayStop (machine_state parked) ending → HasEnded desk admission parked ending (traffic_of left0 left1 taken0 later)
      stopped (Ok x) over = record { last = come.last; noted = come.noted; ends = (so_far.bytes, inr (whole, over)) }
      stopped (Err faults.Read) may = record { last = come.last; noted = come.noted; ends = (so_far.bytes, whole) }
      stopped (Err faults.Bound) none =
          record { last = come.last; noted = come.noted; ends = (so_far.bytes, whole, omega (arith, so_far.count, none)) }
      stopped (Err faults.Write) may = absurd may
      stopped (Err faults.NoMemory) may = absurd may

    -- a front of what is owed was written, and no more
    pub come_front : (taken2 : Option (List ℕ)) (rest : List ℕ)
        → HasCome desk admission parked (traffic_of left0 left1 taken0 taken1)
        → TellsPending parked.owed rest
        → WritesFront taken1 taken2 rest
        → HasEnded desk admission parked (Err faults.Write) (traffic_of left0 left1 taken0 taken2)
    come_front taken2 rest come told wrote =
        let all = written_on taken1 rest in
        let served = come.served rest all.0 told all.1 in record {
          last = come.last;
          noted = come.noted;
          ends = BrokenRun-front (AnswersThrough desk) (AnswersThrough-too_long desk) parked.feeding.line (opened admission unseeing) (resumed admission parked come.last) parked.feeding.unread
              left0 left1 taken0 all.0 taken2 served
              (front_of_all taken0 taken1 all.0 taken2 come.written.0 rest served.fed.text come.written.1 all.1 served.fed.wrote wrote);
        }

  -- where nothing is known of a stream, it may be another
  module _ (taken taken' : Option (List ℕ)) where
    input_unseen : (lines_of : List ℕ → List (List ℕ)) (old new : SessionState K) (bytes : List ℕ)
        → AnswersInput (AnswersThrough desk) lines_of old new (traffic_of None None None taken) bytes
        → AnswersInput (AnswersThrough desk) lines_of old new (traffic_of None None None taken') bytes
    input_unseen lines_of old new bytes h =
        record { text = h.text; bounded = h.bounded; answered = h.answered; read = tt; wrote = tt }

    ends_unseen : (ending : Result (Unit {0}) SessionFault) (old new : SessionState K)
        → Ends (AnswersThrough desk) is_over ending old new (traffic_of None None None taken)
        → Ends (AnswersThrough desk) is_over ending old new (traffic_of None None None taken')
    ends_unseen (Ok u) old new (bytes, inl h) = (bytes, inl (input_unseen lines old new bytes h.0, h.1, h.2))
    ends_unseen (Ok u) old new (bytes, inr h) = (bytes, inr (input_unseen whole_lines old new bytes h.0, h.1))
    ends_unseen (Err faults.Read) old new (bytes, h) = (bytes, input_unseen whole_lines old new bytes h)
    ends_unseen (Err faults.Bound) old new (bytes, h, n) = (bytes, input_unseen whole_lines old new bytes h, n)
    ends_unseen (Err faults.Write) old new h = record {
      done = h.done;
      undone = h.undone;
      text = h.text;
      line_end = h.line_end;
      answered = h.answered;
      read = tt;
      wrote = record { part = h.wrote.part; unwritten = h.wrote.unwritten; front = h.wrote.front; wrote = tt };
    }
    ends_unseen (Err faults.NoMemory) old new h = (h.0, tt, tt)

pub HasCome-stops : {K : Type 0} (desk : DeskLock K) (admission : Admission) (parked : ParkedState K)
    (ending : Result (Unit {0}) SessionFault)
    (left left' taken taken' later : Option (List ℕ)) (rest : List ℕ)
    → HasCome desk admission parked (traffic_of left left' taken taken')
    → TellsPending parked.owed rest
    → Appends taken' later rest
    → MayStop (machine_state parked) ending
    → HasEnded desk admission parked ending (traffic_of left left' taken later)
HasCome-stops desk admission parked ending left left' taken taken' later rest come told wrote may =
    stopped desk admission parked left left' taken taken' later rest come told wrote ending may

pub OwesReply-payable : {K : Type 0} (parked : ParkedState K) → (rest : List ℕ) × OwesReply parked rest
OwesReply-payable parked = some_pending parked.owed

none_counted : (pending : Option Pending) (rest : List ℕ) → option_map count_left pending ≡ None → TellsPending pending rest → rest ≡ []
none_counted None rest none told = told
none_counted (Some pending) rest none told = absurd (false≢true (sym (ap is_some none)))

pub OwesReply-settled : {K : Type 0} (parked : ParkedState K) (rest : List ℕ)
    → (machine_state parked).owed ≡ None → OwesReply parked rest → rest ≡ []
OwesReply-settled parked rest none told = none_counted parked.owed rest none told

pub HasCome-breaks : {K : Type 0} (desk : DeskLock K) (admission : Admission) (parked : ParkedState K)
    (left left' taken taken' : Option (List ℕ))
    → HasCome desk admission parked (traffic_of left left' taken taken')
    → HasEnded desk admission parked (Err faults.Write) (traffic_of left left' taken taken')
HasCome-breaks desk admission parked left left' taken taken' come =
    let rest = some_pending parked.owed in
    come_front desk admission parked left left' taken taken' taken' rest.0 come rest.1
    (record { part = []; unwritten = rest.0; front = refl; wrote = Appends-nil taken' })

pub HasCome-unseen : {K : Type 0} (desk : DeskLock K) (admission : Admission) (parked : ParkedState K)
    (taken taken' : Option (List ℕ))
    → HasCome desk admission parked (traffic_of None None None taken)
    → HasCome desk admission parked (traffic_of None None None taken')
HasCome-unseen desk admission parked taken taken' come = record {
  last = come.last;
  noted = come.noted;
  written = ([], tt);
  served = λ rest later told wrote.
      let all = written_on taken rest in
      let s = come.served rest all.0 told all.1 in record {
        bytes = s.bytes;
        count = s.count;
        read = tt;
        fed = record { parts = s.fed.parts; now = s.fed.now; text = s.fed.text; cut = s.fed.cut; kept_is = s.fed.kept_is; answered = s.fed.answered; wrote = tt };
      };
}

pub HasEnded-unseen : {K : Type 0} (desk : DeskLock K) (admission : Admission) (parked : ParkedState K)
    (ending : Result (Unit {0}) SessionFault) (taken taken' : Option (List ℕ))
    → HasEnded desk admission parked ending (traffic_of None None None taken)
    → HasEnded desk admission parked ending (traffic_of None None None taken')
HasEnded-unseen desk admission parked ending taken taken' e = record {
  last = e.last;
  noted = e.noted;
  ends = ends_unseen desk admission parked taken taken' ending (opened admission unseeing) (resumed admission parked e.last) e.ends;
}

pub HasEnded-spoken : {K : Type 0} (desk : DeskLock K) (admission : Admission) (parked : ParkedState K)
    (ending : Result (Unit {0}) SessionFault) (traffic : Traffic)
    → HasEnded desk admission parked ending traffic
    → SpeaksLines desk admission (machine_state parked).user (machine_state parked).note traffic
HasEnded-spoken desk admission parked ending traffic ended =
    record { parked = parked; ending = ending; ended = ended; user_is = refl; note_is = refl }
