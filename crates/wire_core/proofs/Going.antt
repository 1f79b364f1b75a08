-- A session of messages that goes on.
use Rattle.std.proofs.Common.{◌≡◌, ℕ, ◌+◌, ◌<◌, ◌^◌, List, [], ◌∷◌, ◌++◌, length, Option, Some, None, Ok, Err, refl, sym, ap, ◌∙◌, subst, inl, inr, append_assoc, append-nil, arith}
use Rattle.std.specs.Prelude.{Result, OnOk, OnErr}
use Rattle.std.specs.Io.KnownBytes.{Appends, Consumes, IsAtEnd}
use Rattle.std.proofs.KnownBytes.{Appends-nil, Appends-trans, Consumes-nil, Consumes-trans}
use Rattle.std.proofs.lemmas.List.{length-append}
use Rattle.std.proofs.lemmas.Option.{none-some}
use Rattle.base_core.specs.Streams.{Writes, WritesFront, WritesFrontOf}
use Rattle.base_core.specs.declared.name.User.{User}
use Rattle.base_core.proofs.Fronts.{front-second}
use Rattle.lines_core.specs.Serving.{traffic_of}
use Rattle.lines_core.specs.declared.serving.SessionFault.TheVariants as faults
use Rattle.desk_core.specs.Guarded.{DeskLock, DeskNote, DeskPass}
use Rattle.session_core.specs.Gains.{Watches}
use Rattle.session_core.specs.Machines.{OwesLess}
use Rattle.session_core.specs.Parking.{GainsFor, Meets, NotesNoLess, SeesNoLess, pass_note, unseeing}
use Rattle.session_core.specs.declared.admission.Admission.{Admission}
use Rattle.session_core.proofs.Growing.{Gains-trans, Watches-gains, Watches-trans}
use Rattle.session_core.proofs.Resuming.{noted_sees, seen_noted}
use Rattle.sending_core.specs.Owing.{IsOwed, Lefts, Owes, SendsPart, count_owed}
use Rattle.sending_core.specs.Queue.{Queue}
use Rattle.sending_core.specs.declared.item.Item.{Item}
use Rattle.wire_core.specs.State.{ClientState, IsFront, WireState, calls_owed, unknown, with_lefts}
use Rattle.wire_core.specs.Running.{HasRun, nothing, more}
use Rattle.wire_core.specs.Coming.{HasAnswered, HasStopped, IsFed, held, answered}
use Rattle.wire_core.proofs.Fronts.{nothing_front}

-- what a pass has gained that had met the note before
pub gains_on : {K : Type 0} (user : Option User) (old met new : DeskPass K) → Watches old met → GainsFor user met new → GainsFor user old new
gains_on (Some user) old met new w g = Gains-trans user old met new (Watches-gains user old met w) g
gains_on None old met new w g = Watches-trans old met new w g

-- and has the same lock
pub passes_lock : {K : Type 0} (user : Option User) (met new : DeskPass K) → GainsFor user met new → new.lock ≡ met.lock
passes_lock (Some user) met new g = g.same.0
passes_lock None met new g = g.same.0

-- no calls are owed of nothing
pub nothing_owed : (items : List Item) → calls_owed items ≡ None → items ≡ []
nothing_owed [] none = refl
nothing_owed (item ∷ others) none = absurd (none-some (count_owed (item ∷ others)) (sym none))

-- what is fed is told by no note, and by no count
pub renoted : {K : Type 0} {desk : DeskLock K} {admission : Admission} {old : WireState K} {before after : DeskPass K} {piece : List ℕ} {new : WireState K} {unread : ℕ} {note : Option (DeskNote K)}
    → IsFed desk admission old before piece new after → IsFed desk admission old before piece (record new { unread = unread; note = note }) after
renoted (held kept_is client_is none after_is) = held kept_is client_is none after_is
renoted (answered none takes) = answered none takes

-- fewer calls are owed
pub owes_less : (items others : List Item) → (items ≡ [] → ⊥) → (0 < length items → count_owed others < count_owed items) → OwesLess (calls_owed items) (calls_owed others)
owes_less [] others some less = absurd (some refl)
owes_less (item ∷ items) [] some less = tt
owes_less (item ∷ items) (other ∷ others) some less = less (omega arith)

pub on_ok : {T E A P : Type 0} (r : Result T E) → OnOk r A → (A → P) → OnOk r P
on_ok (Ok x) a f = f a
on_ok (Err e) a f = tt

pub when_broken : {T E A P : Type 0} (r : Result T E) → OnErr r A → (A → P) → OnErr r P
when_broken (Ok x) a f = tt
when_broken (Err e) a f = f a

module _ {K : Type 0} (desk : DeskLock K) (admission : Admission) where
  pub come_first : (client : ClientState) (sending : Queue) (left taken : Option (List ℕ)) → client ≡ unknown → sending.items ≡ []
      → HasAnswered desk admission (record { kept = []; unread = 2 ^ 32; client = client; sending = sending; note = None }) (traffic_of left left taken taken)
  come_first client sending left taken is none = record {
    last = unseeing;
    noted = (refl, refl);
    sent = [];
    read = Consumes-nil left;
    counted = refl;
    front = nothing_front client;
    text = [];
    wrote = Appends-nil taken;
    run = λ rest lefts owes.
        let owed = subst (λ (q : List Item). Owes q client.talk.lefts rest lefts) none owes in
        subst (λ (z : List ℕ × Lefts). HasRun desk admission [] z.0 (with_lefts z.1 client) unseeing) (λ i. (sym owed.0 i, sym owed.1 i))
        (subst (λ (c : ClientState). HasRun desk admission [] [] (with_lefts c.talk.lefts c) unseeing) (sym is) nothing);
  }

  -- more was written of what is to be sent
  module _ (old : WireState K) (lefts : Lefts) (sending : Queue) (text : List ℕ) (left left' taken0 taken1 taken2 : Option (List ℕ))
      (come : HasAnswered desk admission old (traffic_of left left' taken0 taken1)) where
    pub come_on : SendsPart old.sending.items old.client.talk.lefts sending.items lefts text → Appends taken1 taken2 text
        → HasAnswered desk admission (record old { client = with_lefts lefts old.client; sending = sending }) (traffic_of left left' taken0 taken2)
    come_on sends wrote = record {
      last = come.last;
      noted = come.noted;
      sent = come.sent;
      read = come.read;
      counted = come.counted;
      front = come.front;
      text = come.text ++ text;
      wrote = Appends-trans taken0 taken1 taken2 come.text text come.wrote wrote;
      run = λ rest lefts' owes.
          subst (λ (t : List ℕ). HasRun desk admission come.sent t (with_lefts lefts' old.client) come.last) (sym (append_assoc come.text text rest))
          (come.run (text ++ rest) lefts' (sends rest lefts' owes));
    }

    -- or a front of it, and no more
    pub come_broken : IsOwed old.sending.items old.client.talk.lefts text → WritesFront taken1 taken2 text
        → HasStopped desk admission (record old { client = with_lefts lefts old.client; sending = sending }) (Err faults.Write) (traffic_of left left' taken0 taken2)
    come_broken owed wrote = record {
      last = come.last;
      noted = come.noted;
      sent = come.sent;
      read = come.read;
      may = tt;
      front = come.front;
      text = come.text ++ text;
      wrote = front-second taken0 taken1 taken2 come.text text come.wrote wrote;
      lefts = owed.0;
      run = come.run text owed.0 owed.1;
    }

  -- a piece was fed, or the client sends no more
  module _ (kept : List ℕ) (unread : ℕ) (client : ClientState) (sending : Queue) (note note1 : Option (DeskNote K)) (met : DeskPass K) (left0 left1 left2 taken0 taken1 : Option (List ℕ))
      (come : HasAnswered desk admission (record { kept = kept; unread = unread; client = client; sending = sending; note = note }) (traffic_of left0 left1 taken0 taken1))
      (free : sending.items ≡ []) (meets : Meets met note) (own : met.lock ≡ Some desk) where
    sees : SeesNoLess desk come.last met
    sees = noted_sees desk come.last met note come.noted meets own

    none_owed : Owes sending.items client.talk.lefts [] client.talk.lefts
    none_owed = subst (λ (q : List Item). Owes q client.talk.lefts [] client.talk.lefts) (sym free) (refl, refl)

    -- so far
    here : HasRun desk admission come.sent come.text client come.last
    here = subst (λ (t : List ℕ). HasRun desk admission come.sent t client come.last) (append-nil come.text) (come.run [] client.talk.lefts none_owed)

    read_on : (piece : List ℕ) → Consumes left1 left2 piece → Consumes left0 left2 (come.sent ++ (kept ++ piece))
    read_on piece read =
        subst (Consumes left0 left2) (append_assoc come.sent kept piece) (Consumes-trans left0 left1 left2 (come.sent ++ kept) piece come.read read)

    -- nothing was written where nothing is to be sent
    nothing_sent : (items : List Item) (rest : List ℕ) (lefts : Lefts) → items ≡ [] → Owes items client.talk.lefts rest lefts
        → HasRun desk admission come.sent (come.text ++ rest) (with_lefts lefts client) come.last
    nothing_sent items rest lefts none owes =
        let owed = subst (λ (q : List Item). Owes q client.talk.lefts rest lefts) none owes in
        subst (λ (z : List ℕ × Lefts). HasRun desk admission come.sent (come.text ++ z.0) (with_lefts z.1 client) come.last) (λ i. (sym owed.0 i, sym owed.1 i))
        (subst (λ (t : List ℕ). HasRun desk admission come.sent t client come.last) (sym (append-nil come.text)) here)

    module _ (piece : List ℕ) (new : WireState K) (after : DeskPass K) (read : Consumes left1 left2 piece) (fits : new.unread + length piece ≡ unread)
        (front : IsFront new.client new.kept) (noted : new.note ≡ Some (pass_note desk after)) where
      counted : (sent further : List ℕ) → sent ++ further ≡ come.sent ++ (kept ++ piece) → length (sent ++ further) + new.unread ≡ 2 ^ 32
      counted sent further same =
          let before = come.counted in
          let all = ap length same ∙ length-append come.sent (kept ++ piece) in
          let parts = length-append kept piece in
          let kept_all = length-append come.sent kept in
          omega (arith, before, all, parts, kept_all, fits)

      pub come_more : IsFed desk admission (record { kept = kept; unread = unread; client = client; sending = sending; note = note1 }) met piece new after
          → HasAnswered desk admission new (traffic_of left0 left2 taken0 taken1)
      come_more (held kept_is client_is none after_is) = record {
        last = come.last;
        noted = seen_noted desk come.last after new.note noted (subst (SeesNoLess desk come.last) (sym after_is) sees);
        sent = come.sent;
        read = subst (λ (k : List ℕ). Consumes left0 left2 (come.sent ++ k)) (sym kept_is) (read_on piece read);
        counted = counted come.sent new.kept (ap (λ (k : List ℕ). come.sent ++ k) kept_is);
        front = front;
        text = come.text;
        wrote = come.wrote;
        run = λ rest lefts owes.
            subst (λ (c : ClientState). HasRun desk admission come.sent (come.text ++ rest) (with_lefts lefts c) come.last) (sym client_is)
            (nothing_sent new.sending.items rest lefts none (subst (λ (c : ClientState). Owes new.sending.items c.talk.lefts rest lefts) client_is owes));
      }
      come_more (answered none takes) = record {
        last = after;
        noted = subst (NotesNoLess desk after) (sym noted) (refl, ([], sym (append-nil after.seen)), omega arith);
        sent = come.sent ++ (kept ++ piece);
        read = subst (λ (k : List ℕ). Consumes left0 left2 ((come.sent ++ (kept ++ piece)) ++ k)) (sym none) (subst (Consumes left0 left2) (sym (append-nil (come.sent ++ (kept ++ piece)))) (read_on piece read));
        counted = counted (come.sent ++ (kept ++ piece)) new.kept (ap (λ (k : List ℕ). (come.sent ++ (kept ++ piece)) ++ k) none ∙ append-nil (come.sent ++ (kept ++ piece)));
        front = front;
        text = come.text;
        wrote = come.wrote;
        run = λ rest lefts owes. more rest here sees takes owes;
      }

    -- the client sends no more
    pub come_last : (rest : List ℕ) (later : Option (List ℕ)) (new_note : Option (DeskNote K)) → new_note ≡ Some (pass_note desk met) → Consumes left1 left2 [] → IsAtEnd left2
        → IsOwed sending.items client.talk.lefts rest → Appends taken1 later rest
        → HasStopped desk admission (record { kept = kept; unread = unread; client = client; sending = sending; note = new_note }) (Ok tt) (traffic_of left0 left2 taken0 later)
    come_last rest later new_note noted read end owed wrote = record {
      last = come.last;
      noted = seen_noted desk come.last met new_note noted sees;
      sent = come.sent;
      read = subst (λ (k : List ℕ). Consumes left0 left2 (come.sent ++ k)) (append-nil kept) (read_on [] read);
      may = inr end;
      front = come.front;
      text = come.text ++ rest;
      wrote = Appends-trans taken0 taken1 later come.text rest come.wrote wrote;
      lefts = owed.0;
      run = come.run rest owed.0 owed.1;
    }
