-- A session that goes on through one pass after another.
use Rattle.std.proofs.Common.{◌≡◌, false, ℕ, ◌<◌, ◌+◌, ◌-◌, ◌^◌, List, [], ◌++◌, length, Option, Some, None, Ok, Err, sym, ap, ◌∙◌, subst, refl, inl, inr, append-nil, arith}
use Rattle.std.specs.Prelude.{Result, IfOk, OnErr, option_map}
use Rattle.std.specs.Option.{is_some}
use Rattle.std.specs.Io.KnownBytes.{Appends, Consumes, Keeps, IsAtEnd}
use Rattle.std.proofs.lemmas.Bool.{false≢true}
use Rattle.std.proofs.KnownBytes.{Appends-nil, Appends-trans, Appends-kept, Consumes-nil}
use Rattle.base_core.specs.Streams.{Writes, WritesFrontOf}
use Rattle.base_core.proofs.Fronts.{front-first}
use Rattle.base_core.specs.declared.name.User.{User}
use Rattle.lines_core.specs.declared.serving.SessionFault.TheVariants as faults
use Rattle.lines_core.specs.Serving.{AnswersPart, BreaksPart, HasServed, traffic_of}
use Rattle.lines_core.specs.Lines.{NoFeed}
use Rattle.lines_core.proofs.Parts.{part_is_piece, part_breaks}
use Rattle.lines_core.proofs.ServeLemmas.{Serving-next, BrokenRun-next, BrokenRun-last, Run-last, Run-nothing, Open-last, Open-nothing}
use Rattle.desk_core.specs.Guarded.{DeskLock, DeskPass, DeskNote}
use Rattle.session_core.specs.declared.admission.Admission.{Admission}
use Rattle.session_core.specs.Gains.{Watches}
use Rattle.reply_core.specs.Pending.{TellsPending, count_left}
use Rattle.reply_core.specs.declared.pending.Pending.{Pending}
use Rattle.reply_core.proofs.PendingLemmas.{some_pending}
use Rattle.session_core.specs.Session.{SessionState, opened, is_over, AnswersSession, BeginsSession, GainsOf}
use Rattle.session_core.specs.TooLong.{AnswersThrough-too_long}
use Rattle.session_core.specs.Parking.{ParkedState, parked_first, resumed, unseeing, SeesNoLess, NotesNoLess, Meets, pass_note, AnswersThrough, HasCome, HasEnded, GainsFor}
use Rattle.session_core.proofs.Growing.{starts_through, Gains-trans, Watches-gains}

-- of what nothing is counted, nothing is pending
pub nothing_left : (pending : Option Pending) → option_map count_left pending ≡ None → pending ≡ None
nothing_left None none = refl
nothing_left (Some pending) none = absurd (false≢true (sym (ap is_some none)))

-- what follows from both outcomes
pub either : {T E P : Type 0} {A : T → Type 0} {B : Type 0} (r : Result T E) → IfOk r A → OnErr r B → ((x : T) → A x → P) → (B → P) → P
either (Ok x) a b f g = f x a
either (Err e) a b f g = g b

pub if_ok : {T E : Type 0} {A B C P : T → Type 0} (r : Result T E) → IfOk r A → IfOk r B → IfOk r C → ((x : T) → A x → B x → C x → P x) → IfOk r P
if_ok (Ok x) a b c f = f x a b c
if_ok (Err e) a b c f = tt

pub on_err : {T E A P : Type 0} (r : Result T E) → OnErr r A → (A → P) → OnErr r P
on_err (Ok x) a f = tt
on_err (Err e) a f = f a

pub on_any : {T E P : Type 0} (r : Result T E) → P → OnErr r P
on_any (Ok x) p = tt
on_any (Err e) p = p

-- nothing was written, and nothing behind it
kept_nothing : (taken1 taken2 later : Option (List ℕ)) (rest : List ℕ) → Keeps taken1 taken2 → Appends taken2 later rest → rest ≡ [] → Keeps taken1 later
kept_nothing None taken2 later rest keeps wrote nothing = tt
kept_nothing (Some a) None later rest keeps wrote nothing = absurd keeps
kept_nothing (Some a) (Some b) None rest keeps wrote nothing = absurd wrote
kept_nothing (Some a) (Some b) (Some c) rest keeps wrote nothing = wrote ∙ (ap (λ t. b ++ t) nothing ∙ (append-nil b ∙ keeps))

-- what a pass has gained for a session that it had met before
pub gains_for : {K : Type 0} (found : Option User) (old met new : DeskPass K) → Watches old met → GainsOf found met new → GainsFor found old new
gains_for (Some user) old met new w g = Gains-trans user old met new (Watches-gains user old met w) g
gains_for None old met new w same = subst (Watches old) (sym same) w

module _ {K : Type 0} (desk : DeskLock K) where
  pub sees_itself : (pass : DeskPass K) → pass.lock ≡ Some desk → SeesNoLess desk pass pass
  sees_itself pass is = (is, ([], sym (append-nil pass.seen)), omega arith)

  -- a pass that has met the note has seen no less than the session
  pub noted_sees : (last met : DeskPass K) (note : Option (DeskNote K)) → NotesNoLess desk last note → Meets met note → met.lock ≡ Some desk → SeesNoLess desk last met
  noted_sees last met (Some note) n m is = (is, starts_through last.seen note.seen met.seen n.1 m.0, omega (arith, n.2, m.1))
  noted_sees last met None n m is = (is, (met.seen, sym (ap (λ z. z ++ met.seen) n.0)), omega (arith, n.1))

  pub seen_noted : (last after : DeskPass K) (note : Option (DeskNote K)) → note ≡ Some (pass_note desk after) → SeesNoLess desk last after → NotesNoLess desk last note
  seen_noted last after note is sees = subst (NotesNoLess desk last) (sym is) (refl, sees.1, sees.2)

  module _ (admission : Admission) where
    first_served : (left taken later : Option (List ℕ)) → Appends taken later [] → HasServed (AnswersThrough desk) [] (opened admission unseeing) (resumed admission parked_first unseeing) (2 ^ 32) (traffic_of left left taken later)
    first_served left taken later wrote = record {
      bytes = [];
      count = refl;
      read = Consumes-nil left;
      fed = record { parts = []; now = []; text = []; cut = record { whole = refl; each = tt; open_rest = tt }; kept_is = refl; answered = (refl, refl); wrote = wrote };
    }

    pub come_first : (left taken : Option (List ℕ)) → HasCome desk admission parked_first (traffic_of left left taken taken)
    come_first left taken = record {
      last = unseeing;
      noted = (refl, refl);
      written = ([], Appends-nil taken);
      served = λ rest later none wrote. first_served left taken later (subst (Appends taken later) none wrote);
    }

    -- a session that owes nothing, its pass once it has met the note, and behind that, and what was read and written
    module _ (old new : ParkedState K) (met after : DeskPass K) (left0 left1 left2 taken0 taken1 taken2 : Option (List ℕ))
        (come : HasCome desk admission old (traffic_of left0 left1 taken0 taken1)) (free : old.owed ≡ None) (meets : Meets met old.note) (own : met.lock ≡ Some desk) (noted : new.note ≡ Some (pass_note desk after)) where
      sees : SeesNoLess desk come.last met
      sees = noted_sees come.last met old.note come.noted meets own

      -- so far
      pub here : HasServed (AnswersThrough desk) old.feeding.line (opened admission unseeing) (resumed admission old come.last) old.feeding.unread (traffic_of left0 left1 taken0 taken1)
      here = come.served [] taken1 (subst (λ p. TellsPending p []) (sym free) refl) (Appends-nil taken1)

      itself : NotesNoLess desk after new.note
      itself = subst (NotesNoLess desk after) (sym noted) (refl, ([], sym (append-nil after.seen)), omega arith)

      -- a line that was answered through the pass that has met the note
      through : (line text : List ℕ) → AnswersSession desk (resumed admission old met) line text (resumed admission new after) → AnswersThrough desk (resumed admission old come.last) line text (resumed admission new after)
      through line text answered = record { pass = met; sees = sees; answered = answered }

      -- a piece
      module _ (piece : List ℕ) (read : Consumes left1 left2 piece) where
        -- what was served, once this part is fed too
        next : (last : DeskPass K) (later : Option (List ℕ)) → new.feeding.unread + length piece ≡ old.feeding.unread
            → AnswersPart (AnswersThrough desk) here.fed.now piece new.feeding.line (resumed admission old come.last) (resumed admission new last) taken1 later
            → HasServed (AnswersThrough desk) new.feeding.line (opened admission unseeing) (resumed admission new last) new.feeding.unread (traffic_of left0 left2 taken0 later)
        next last later fits part =
            let unread : old.feeding.unread - length piece ≡ new.feeding.unread = omega (arith, fits) in
            subst (λ k. HasServed (AnswersThrough desk) new.feeding.line (opened admission unseeing) (resumed admission new last) k (traffic_of left0 left2 taken0 later)) unread
            (Serving-next (AnswersThrough desk) (AnswersThrough-too_long desk) old.feeding.line new.feeding.line (opened admission unseeing) (resumed admission old come.last) (resumed admission new last) piece old.feeding.unread
            left0 left1 left2 taken0 taken1 later here read (omega (arith, fits))
            (part_is_piece (AnswersThrough desk) here.fed.now piece new.feeding.line (resumed admission old come.last) (resumed admission new last) taken1 later part here.fed.cut.open_rest))

        pub come_more : new.feeding.unread + length piece ≡ old.feeding.unread
            → AnswersPart (λ before l text behind. BeginsSession desk before l text new.owed behind) here.fed.now piece new.feeding.line (resumed admission old met) (resumed admission new after) taken1 taken2
            → (NoFeed piece → new.owed ≡ None)
            → HasCome desk admission new (traffic_of left0 left2 taken0 taken2)
        come_more fits (inl front) none =
            let same : resumed admission new come.last ≡ resumed admission old come.last = ap (λ (z : SessionState K). record z { pass = come.last }) front.same in record {
              last = come.last;
              noted = seen_noted come.last after new.note noted (subst (λ z. SeesNoLess desk come.last z.pass) (sym front.same) sees);
              written = (come.written.0, Appends-kept taken0 taken1 taken2 come.written.0 come.written.1 front.unwritten);
              served = λ rest later told wrote.
                  let nothing : rest ≡ [] = subst (λ p. TellsPending p rest) (none front.no_feed) told in
                  let still : Keeps taken1 later = kept_nothing taken1 taken2 later rest front.unwritten wrote nothing in
                  next come.last later fits (inl (record { no_feed = front.no_feed; kept_is = front.kept_is; same = same; unwritten = still }));
            }
        come_more fits (inr line) none = record {
          last = after;
          noted = itself;
          written = (come.written.0 ++ line.text, Appends-trans taken0 taken1 taken2 come.written.0 line.text come.written.1 line.wrote);
          served = λ rest later told wrote. next after later fits (inr (record {
            part = line.part;
            text = line.text ++ rest;
            piece_is = line.piece_is;
            no_feed = line.no_feed;
            kept_is = line.kept_is;
            answered = through _ (line.text ++ rest) (line.answered rest told);
            wrote = Appends-trans taken1 taken2 later line.text rest line.wrote wrote;
          }));
        }

        pub come_broken : BreaksPart (AnswersSession desk) here.fed.now piece (resumed admission old met) (resumed admission new after) taken1 taken2
            → HasEnded desk admission new (Err faults.Write) (traffic_of left0 left2 taken0 taken2)
        come_broken broken = record {
          last = after;
          noted = itself;
          ends = BrokenRun-next (AnswersThrough desk) (AnswersThrough-too_long desk) old.feeding.line (opened admission unseeing) (resumed admission old come.last) (resumed admission new after) piece old.feeding.unread
              left0 left1 left2 taken0 taken1 taken2 here read
              (part_breaks (AnswersThrough desk) here.fed.now piece (resumed admission old come.last) (resumed admission new after) taken1 taken2
              (record {
                part = broken.part;
                behind = broken.behind;
                text = broken.text;
                piece_is = broken.piece_is;
                no_feed = broken.no_feed;
                answered = through _ broken.text broken.answered;
                wrote = broken.wrote;
              }) here.fed.cut.open_rest);
        }

      -- the end of what is sent
      module _ (read : Consumes left1 left2 []) (end : IsAtEnd left2) where
        pub ended_last : (rest : List ℕ) (later : Option (List ℕ)) → TellsPending new.owed rest → Appends taken2 later rest
            → old.over ≡ false → 0 < length old.feeding.line
            → Writes (λ text. BeginsSession desk (resumed admission old met) old.feeding.line text new.owed (resumed admission new after)) taken1 taken2
            → HasEnded desk admission new (Ok tt) (traffic_of left0 left2 taken0 later)
        ended_last rest later told wrote unended some w =
            let last : Writes (λ text. AnswersThrough desk (resumed admission old come.last) old.feeding.line text (resumed admission new after)) taken1 later
            = record { text = w.text ++ rest; is = through old.feeding.line (w.text ++ rest) (w.is rest told); wrote = Appends-trans taken1 taken2 later w.text rest w.wrote wrote } in record {
              last = after;
              noted = itself;
              ends = (
                here.bytes,
                inl (
                  Run-last (AnswersThrough desk) (AnswersThrough-too_long desk) old.feeding.line (opened admission unseeing) (resumed admission old come.last) (resumed admission new after) old.feeding.unread
                      left0 left1 left2 taken0 taken1 later here read some last,
                  end,
                  Open-last (AnswersThrough desk) (AnswersThrough-too_long desk) is_over old.feeding.line (opened admission unseeing) (resumed admission old come.last) (resumed admission new after) old.feeding.unread
                      left0 left1 taken0 taken1 later here (λ _. unended) some last,
                ),
              );
            }

        pub ended_nothing : (rest : List ℕ) (later : Option (List ℕ)) → rest ≡ [] → Appends taken2 later rest
            → old.over ≡ false → length old.feeding.line ≡ 0 → resumed admission new after ≡ resumed admission old met → Keeps taken1 taken2
            → HasEnded desk admission new (Ok tt) (traffic_of left0 left2 taken0 later)
        ended_nothing rest later nothing wrote unended none same keeps =
            let now : resumed admission new come.last ≡ resumed admission old come.last = ap (λ (z : SessionState K). record z { pass = come.last }) same in record {
              last = come.last;
              noted = seen_noted come.last after new.note noted (subst (λ z. SeesNoLess desk come.last z.pass) (sym same) sees);
              ends = (
                here.bytes,
                inl (
                  Run-nothing (AnswersThrough desk) (AnswersThrough-too_long desk) old.feeding.line (opened admission unseeing) (resumed admission old come.last) (resumed admission new come.last) old.feeding.unread
                      left0 left1 left2 taken0 taken1 later here read none now (kept_nothing taken1 taken2 later rest keeps wrote nothing),
                  end,
                  Open-nothing (AnswersThrough desk) (AnswersThrough-too_long desk) is_over old.feeding.line (opened admission unseeing) (resumed admission old come.last) (resumed admission new come.last) old.feeding.unread
                      left0 left1 taken0 taken1 here (λ _. unended) none now,
                ),
              );
            }

        pub ended_broken : 0 < length old.feeding.line
            → WritesFrontOf (λ text. BeginsSession desk (resumed admission old met) old.feeding.line text new.owed (resumed admission new after)) taken1 taken2
            → HasEnded desk admission new (Err faults.Write) (traffic_of left0 left2 taken0 taken2)
        ended_broken some w =
            let more = some_pending new.owed in record {
              last = after;
              noted = itself;
              ends = BrokenRun-last (AnswersThrough desk) (AnswersThrough-too_long desk) old.feeding.line (opened admission unseeing) (resumed admission old come.last) (resumed admission new after) old.feeding.unread
                  left0 left1 left2 taken0 taken1 taken2 here read end some
                  (record { text = w.text ++ more.0; is = through old.feeding.line (w.text ++ more.0) (w.is more.0 more.1); wrote = front-first taken1 taken2 w.text more.0 w.wrote });
            }

    -- some more of what is owed was written
    pub come_on : (old new : ParkedState K) (text : List ℕ) (left0 left1 taken0 taken1 taken2 : Option (List ℕ)) → new ≡ record old { owed = new.owed }
        → ((rest : List ℕ) → TellsPending new.owed rest → TellsPending old.owed (text ++ rest)) → Appends taken1 taken2 text
        → HasCome desk admission old (traffic_of left0 left1 taken0 taken1) → HasCome desk admission new (traffic_of left0 left1 taken0 taken2)
    come_on old new text left0 left1 taken0 taken1 taken2 same goes wrote come =
        let on : HasCome desk admission (record old { owed = new.owed }) (traffic_of left0 left1 taken0 taken2) = record {
          last = come.last;
          noted = come.noted;
          written = (come.written.0 ++ text, Appends-trans taken0 taken1 taken2 come.written.0 text come.written.1 wrote);
          served = λ rest later told more. come.served (text ++ rest) later (goes rest told) (Appends-trans taken1 taken2 later text rest wrote more);
        } in
        subst (λ p. HasCome desk admission p (traffic_of left0 left1 taken0 taken2)) (sym same) on
