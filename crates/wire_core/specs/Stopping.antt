-- Where sessions of messages stop.
use Rattle.std.proofs.Common.{◌≡◌, ℕ, ◌≤◌, ◌+◌, ◌^◌, List, [], ◌∷◌, ◌++◌, length, Option, Some, None, refl, sym, inl, inr, arith}
use Rattle.std.specs.Prelude.{Result, Ok, Err}
use Rattle.std.specs.Io.KnownBytes.{Appends}
use Rattle.std.proofs.KnownBytes.{Appends-trans}
use Rattle.std.proofs.lemmas.Option.{none-some}
use Rattle.lines_core.specs.Serving.{Traffic, traffic_of}
use Rattle.lines_core.specs.declared.serving.SessionFault.{SessionFault}
use Rattle.lines_core.specs.declared.serving.SessionFault.TheVariants as faults
use Rattle.desk_core.specs.Guarded.{DeskLock}
use Rattle.session_core.specs.Machines.{MayStop}
use Rattle.session_core.specs.declared.admission.Admission.{Admission}
use Rattle.sending_core.specs.Owing.{IsOwed, Lefts, count_owed}
use Rattle.sending_core.specs.declared.item.Item.{Item}
use Rattle.sending_core.proofs.Owings.{some_owed}
use Rattle.wire_core.specs.State.{WireState, calls_owed, wire_machine}
use Rattle.wire_core.specs.Coming.{HasAnswered, HasStopped, MayEnd, OwesMessages, SpeaksMessages, WroteAt}

module _ {K : Type 0} (wire : WireState K) where
  -- how it may stop it may end
  may_end : (ending : Result (Unit {0}) SessionFault) (left : Option (List ℕ)) (read : List ℕ)
      → length read + wire.unread ≡ 2 ^ 32 → MayStop (wire_machine wire) ending → MayEnd wire left read ending
  may_end (Ok x) left read counted over = inl over
  may_end (Err faults.Read) left read counted may = tt
  may_end (Err faults.Bound) left read counted none = omega (arith, counted, none)
  may_end (Err faults.Write) left read counted may = absurd may
  may_end (Err faults.NoMemory) left read counted may = absurd may

  -- and then all was written
  wrote_at : (ending : Result (Unit {0}) SessionFault) (taken later : Option (List ℕ)) (text : List ℕ)
      → MayStop (wire_machine wire) ending → Appends taken later text → WroteAt ending taken later text
  wrote_at (Ok x) taken later text may wrote = wrote
  wrote_at (Err faults.Read) taken later text may wrote = wrote
  wrote_at (Err faults.Bound) taken later text may wrote = wrote
  wrote_at (Err faults.Write) taken later text may wrote = absurd may
  wrote_at (Err faults.NoMemory) taken later text may wrote = absurd may

pub HasAnswered-stops : {K : Type 0} (desk : DeskLock K) (admission : Admission) (wire : WireState K)
    (ending : Result (Unit {0}) SessionFault)
    (left left' taken taken' later : Option (List ℕ)) (rest : List ℕ)
    → HasAnswered desk admission wire (traffic_of left left' taken taken')
    → OwesMessages wire rest
    → Appends taken' later rest
    → MayStop (wire_machine wire) ending
    → HasStopped desk admission wire ending (traffic_of left left' taken later)
HasAnswered-stops desk admission wire ending left left' taken taken' later rest come owed wrote may = record {
  last = come.last;
  noted = come.noted;
  sent = come.sent;
  read = come.read;
  may = may_end wire ending left' (come.sent ++ wire.kept) come.counted may;
  front = come.front;
  text = come.text ++ rest;
  wrote = wrote_at wire ending taken later (come.text ++ rest) may
      (Appends-trans taken taken' later come.text rest come.wrote wrote);
  lefts = owed.0;
  run = come.run rest owed.0 owed.1;
}

pub OwesMessages-payable : {K : Type 0} (wire : WireState K) → (rest : List ℕ) × OwesMessages wire rest
OwesMessages-payable wire = some_owed wire.sending.items wire.client.talk.lefts

nothing_owed : (items : List Item) (lefts : Lefts) (rest : List ℕ) → calls_owed items ≡ None
    → IsOwed items lefts rest → rest ≡ []
nothing_owed [] lefts rest none owed = owed.1.0
nothing_owed (item ∷ others) lefts rest none owed =
    absurd (none-some (count_owed (item ∷ others)) (sym none))

pub OwesMessages-settled : {K : Type 0} (wire : WireState K) (rest : List ℕ)
    → (wire_machine wire).owed ≡ None → OwesMessages wire rest → rest ≡ []
OwesMessages-settled wire rest none owed =
    nothing_owed wire.sending.items wire.client.talk.lefts rest none owed

pub HasAnswered-breaks : {K : Type 0} (desk : DeskLock K) (admission : Admission) (wire : WireState K)
    (left left' taken taken' : Option (List ℕ))
    → HasAnswered desk admission wire (traffic_of left left' taken taken')
    → HasStopped desk admission wire (Err faults.Write) (traffic_of left left' taken taken')
HasAnswered-breaks desk admission wire left left' taken taken' come =
    let owed = some_owed wire.sending.items wire.client.talk.lefts in record {
      last = come.last;
      noted = come.noted;
      sent = come.sent;
      read = come.read;
      may = tt;
      front = come.front;
      text = come.text ++ owed.0;
      wrote = record { part = come.text; unwritten = owed.0; front = refl; wrote = come.wrote };
      lefts = owed.1.0;
      run = come.run owed.0 owed.1.0 owed.1.1;
    }

pub HasAnswered-unseen : {K : Type 0} (desk : DeskLock K) (admission : Admission) (wire : WireState K)
    (taken taken' : Option (List ℕ))
    → HasAnswered desk admission wire (traffic_of None None None taken)
    → HasAnswered desk admission wire (traffic_of None None None taken')
HasAnswered-unseen desk admission wire taken taken' come = record {
  last = come.last;
  noted = come.noted;
  sent = come.sent;
  read = tt;
  counted = come.counted;
  front = come.front;
  text = come.text;
  wrote = tt;
  run = come.run;
}

wrote_unseen : (ending : Result (Unit {0}) SessionFault) (taken taken' : Option (List ℕ)) (text : List ℕ)
    → WroteAt ending None taken text → WroteAt ending None taken' text
wrote_unseen (Ok x) taken taken' text wrote = tt
wrote_unseen (Err faults.Read) taken taken' text wrote = tt
wrote_unseen (Err faults.Bound) taken taken' text wrote = tt
wrote_unseen (Err faults.Write) taken taken' text wrote =
    record { part = wrote.part; unwritten = wrote.unwritten; front = wrote.front; wrote = tt }
wrote_unseen (Err faults.NoMemory) taken taken' text wrote = tt

pub HasStopped-unseen : {K : Type 0} (desk : DeskLock K) (admission : Admission) (wire : WireState K)
    (ending : Result (Unit {0}) SessionFault) (taken taken' : Option (List ℕ))
    → HasStopped desk admission wire ending (traffic_of None None None taken)
    → HasStopped desk admission wire ending (traffic_of None None None taken')
HasStopped-unseen desk admission wire ending taken taken' ended = record {
  last = ended.last;
  noted = ended.noted;
  sent = ended.sent;
  read = tt;
  may = ended.may;
  front = ended.front;
  text = ended.text;
  wrote = wrote_unseen ending taken taken' ended.text ended.wrote;
  lefts = ended.lefts;
  run = ended.run;
}

pub HasStopped-spoken : {K : Type 0} (desk : DeskLock K) (admission : Admission) (wire : WireState K)
    (ending : Result (Unit {0}) SessionFault) (traffic : Traffic)
    → HasStopped desk admission wire ending traffic
    → SpeaksMessages desk admission (wire_machine wire).user (wire_machine wire).note traffic
HasStopped-spoken desk admission wire ending traffic ended =
    record { wire = wire; ending = ending; ended = ended; user_is = refl; note_is = refl }
