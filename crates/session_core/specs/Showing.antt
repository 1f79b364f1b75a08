-- What the lines of a session show that has to log in.
use Rattle.std.specs.Arc.{arc_value}
use Rattle.std.proofs.Common.{◌≡◌, ℕ, Bool, true, false, List, [], ◌∷◌, ◌++◌, Option, Some, None, sym, ap, ◌∙◌, subst, refl, inl, inr, append_assoc, append-nil}
use Rattle.std.specs.Prelude.{Result, Ok, Err, IfSome, ◌⊎◌}
use Rattle.std.specs.Str.Lines.{lines}
use Rattle.std.specs.Io.KnownBytes.{Consumes}
use Rattle.std.proofs.lemmas.Bool.{false≢true}
use Rattle.base_core.specs.declared.name.User.{User}
use Rattle.login_core.specs.Users.{Users}
use Rattle.login_core.specs.Login.{Beginning}
use Rattle.login_core.specs.Exchange.{Standing, Fresh, Asked, Named, Over, MovesOn, asked, logged_in, said, ended, Exchange, nothing, more, HasShown}
use Rattle.login_core.proofs.Standing.{named_has_shown}
use Rattle.lines_core.specs.Lines.{whole_lines}
use Rattle.lines_core.specs.Serving.{AnswersAll, AnswersInput, Ends, Traffic}
use Rattle.lines_core.specs.declared.serving.SessionFault.{SessionFault}
use Rattle.lines_core.specs.declared.serving.SessionFault.TheVariants as faults
use Rattle.desk_core.specs.Guarded.{DeskLock, DeskPass, DeskNote}
use Rattle.session_core.specs.declared.admission.Admission.{Admission}
use Rattle.session_core.specs.declared.reception.Reception.{Reception}
use Rattle.session_core.specs.declared.reception.Reception.TheVariants as receptions
use Rattle.session_core.specs.Admission.{ReceivesOpening, ReceivesLast, Receives}
use Rattle.session_core.specs.Session as s
use Rattle.session_core.specs.Session.{SessionState, opened, behind_reception, AnswersSession, is_over}
use Rattle.session_core.specs.declared.admission.Admission.TheVariants as admissions
use Rattle.session_core.specs.Parking.{ParkedState, AnswersThrough, HasEnded, SpeaksLines, resumed, unseeing}
use Rattle.session_core.specs.LoggedIn.{HasLoggedIn, HasComeAs}
use Rattle.lines_core.proofs.Seen.{ends-seen}
use Rattle.std.proofs.lemmas.Option.{none-some}

-- how far a session is which has to log in
abbrev pub standing : Option User → Option Beginning → Bool → Standing
standing (Some user) begun over = Named user.0
standing None begun true = Over
standing None None false = Fresh
standing None (Some begun) false = Asked begun

abbrev pub standing_of : {K : Type 0} → SessionState K → Standing
standing_of state = standing state.user state.begun state.over

module _ (users : Users) (secret own : List ℕ) where
  -- what a line comes to that is received so
  abbrev pub ReceivesLogin : Option Beginning → List ℕ → Reception → Type 0
  ReceivesLogin None line reception = ReceivesOpening users secret own line reception
  ReceivesLogin (Some begun) line reception = ReceivesLast users begun line reception

  over_stays : (user : Option User) (begun : Option Beginning) (over : Bool) (line : List ℕ) → over ≡ true → MovesOn users secret own (standing user begun over) line (standing user begun over)
  over_stays (Some user) begun over line o = said user.0
  over_stays None begun true line o = ended Over
  over_stays None begun false line o = absurd (false≢true o)

  named_stays : (user : User) (found : Option User) (begun : Option Beginning) (over over' : Bool) (line : List ℕ) → found ≡ Some user → MovesOn users secret own (standing found begun over) line (standing found begun over')
  named_stays user found begun over over' line e =
      subst (λ z. MovesOn users secret own (standing z begun over) line (standing z begun over')) (sym e) (said user.0)

  module _ {K : Type 0} where
    received_advances : (begun : Option Beginning) (line : List ℕ) (reception : Reception) (state : SessionState K) → ReceivesLogin begun line reception
        → MovesOn users secret own (standing None begun false) line (standing_of (behind_reception reception (record state { begun = begun; user = None; over = false })))
    received_advances None line (receptions.Challenged begun) state r = asked begun r.1
    received_advances None line (receptions.Faulty code offset) state r = ended Fresh
    received_advances None line receptions.Unread state r = ended Fresh
    received_advances None line (receptions.Welcomed user answer) state r = absurd r
    received_advances None line receptions.Refused state r = absurd r
    received_advances (Some begun) line (receptions.Welcomed user answer) state r =
        subst (λ z. MovesOn users secret own (Asked begun) line (Named z)) (sym r.1) (logged_in begun r.2.1)
    received_advances (Some begun) line receptions.Refused state r = ended (Asked begun)
    received_advances (Some begun) line receptions.Unread state r = ended (Asked begun)
    received_advances (Some begun) line (receptions.Challenged other) state r = absurd r
    received_advances (Some begun) line (receptions.Faulty code offset) state r = absurd r

    -- what an admission says of a line, if the user has to log in
    module _ (admission : Admission) (as_login : (begun : Option Beginning) (line : List ℕ) (reception : Reception) → Receives admission begun line reception → ReceivesLogin begun line reception) (desk : DeskLock K) where
      same_admission : (reception : Reception) (old : SessionState K) → old.admission ≡ admission → (behind_reception reception old).admission ≡ admission
      same_admission (receptions.Welcomed user answer) old a = a
      same_admission (receptions.Challenged begun) old a = a
      same_admission (receptions.Faulty code offset) old a = a
      same_admission receptions.Refused old a = a
      same_admission receptions.Unread old a = a

      pub step : (old new : SessionState K) (line text : List ℕ) → old.admission ≡ admission → AnswersSession desk old line text new
          → (new.admission ≡ admission) × MovesOn users secret own (standing_of old) line (standing_of new)
      step old _ line _ a (s.ended o) = (a, over_stays old.user old.begun old.over line o)
      step old _ line _ a (s.received reception o n r) =
          let r1 = as_login old.begun line reception (subst (λ z. Receives z old.begun line reception) a r) in
          let clean : old ≡ record old { user = None; over = false } = (λ i. record old { user = n i; over = o i }) in
          (same_admission reception old a, subst (λ z. MovesOn users secret own (standing_of z) line (standing_of (behind_reception reception z))) (sym clean) (received_advances old.begun line reception old r1))
      step old _ line _ a (s.served user o n h) = (a, named_stays user old.user old.begun old.over old.over line n)
      step old _ line _ a (s.withheld user o n h) = (a, named_stays user old.user old.begun old.over true line n)

      step_through : (old new : SessionState K) (line text : List ℕ) → old.admission ≡ admission → AnswersThrough desk old line text new
          → (new.admission ≡ admission) × MovesOn users secret own (standing_of old) line (standing_of new)
      step_through old new line text a h = step (record old { pass = h.pass }) new line text a h.answered

      -- lines that are answered so, or so through any passes
      module _ (R : SessionState K → List ℕ → List ℕ → SessionState K → Type 0)
          (moves : (old new : SessionState K) (line text : List ℕ) → old.admission ≡ admission → R old line text new
          → (new.admission ≡ admission) × MovesOn users secret own (standing_of old) line (standing_of new)) where
        all_lines : (old new : SessionState K) (before ls : List (List ℕ)) (text : List ℕ) → old.admission ≡ admission
            → Exchange users secret own before (standing_of old)
            → AnswersAll R old ls text new
            → Exchange users secret own (before ++ ls) (standing_of new)
        all_lines old new before [] text a run h =
            subst (λ z. Exchange users secret own (before ++ []) (standing_of z)) (sym h.1)
            (subst (λ ms. Exchange users secret own ms (standing_of old)) (sym (append-nil before)) run)
        all_lines old new before (l ∷ ls) text a run (first, mid, later, h, t, e) =
            let one = moves old mid l first a h in
            subst (λ ms. Exchange users secret own ms (standing_of new)) (append_assoc before (l ∷ []) ls)
            (all_lines mid new (before ++ l ∷ []) ls later one.0 (more l run one.1) t)

        -- from the beginning on
        module _ (pass : DeskPass K) (last : SessionState K) (user : User) (named : last.user ≡ Some user) where
          shown_by : (messages : List (List ℕ)) (text : List ℕ) → AnswersAll R (opened admission pass) messages text last
              → HasShown users secret own messages user.0
          shown_by messages text h =
              let run = all_lines (opened admission pass) last [] messages text refl nothing h in
              named_has_shown users secret own messages (Named user.0)
              (subst (λ z. Exchange users secret own messages (standing z last.begun last.over)) named run)

          by_input : (lines_of : List ℕ → List (List ℕ)) (traffic : Traffic) (bytes : List ℕ)
              → (lines_of bytes ≡ lines bytes) ⊎ (lines_of bytes ≡ whole_lines bytes)
              → AnswersInput R lines_of (opened admission pass) last traffic bytes
              → HasLoggedIn users secret own traffic user
          by_input lines_of traffic bytes are h =
              record {
                sent = bytes;
                behind = [];
                messages = lines_of bytes;
                read = subst (Consumes traffic.left traffic.left') (sym (append-nil bytes)) h.read;
                lines_are = are;
                shown = shown_by (lines_of bytes) h.text h.answered;
              }

          pub by_end : (r : Result (Unit {0}) SessionFault) (traffic : Traffic)
              → Ends R is_over r (opened admission pass) last traffic
              → HasLoggedIn users secret own traffic user
          by_end (Ok u) traffic (bytes, inl h) = by_input lines traffic bytes (inl refl) h.0
          by_end (Ok u) traffic (bytes, inr h) = by_input whole_lines traffic bytes (inr refl) h.0
          by_end (Err faults.Read) traffic (bytes, h) = by_input whole_lines traffic bytes (inr refl) h
          by_end (Err faults.Bound) traffic (bytes, h, n) = by_input whole_lines traffic bytes (inr refl) h
          by_end (Err faults.Write) traffic h =
              record {
                sent = h.done;
                behind = h.undone;
                messages = lines h.done;
                read = h.read;
                lines_are = inl refl;
                shown = shown_by (lines h.done) h.text h.answered;
              }
          by_end (Err faults.NoMemory) traffic h =
              let none : Some user ≡ None = sym named ∙ ap (λ z. z.user) h.0 in absurd (none-some user (sym none))

-- who is known stays the one who is known
module _ {K : Type 0} (desk : DeskLock K) (known : User) where
  abbrev IsKnown : SessionState K → Type 0
  IsKnown state = (state.admission ≡ admissions.Known known) × IfSome state.user (λ u. u ≡ known)

  received_known : (reception : Reception) (begun : Option Beginning) (line : List ℕ) (old : SessionState K) → IsKnown old → Receives (admissions.Known known) begun line reception → IsKnown (behind_reception reception old)
  received_known (receptions.Welcomed user answer) begun line old k r = (k.0, r.1)
  received_known (receptions.Challenged other) begun line old k r = absurd r
  received_known (receptions.Faulty code offset) begun line old k r = k
  received_known receptions.Refused begun line old k r = absurd r
  received_known receptions.Unread begun line old k r = absurd r

  pub known_step : (old new : SessionState K) (line text : List ℕ) → IsKnown old → AnswersSession desk old line text new → AnswersSession desk old line text new × IsKnown new
  known_step old _ line _ k (s.ended o) = (s.ended o, k)
  known_step old _ line _ k (s.received reception o n r) = (s.received reception o n r, received_known reception old.begun line old k (subst (λ z. Receives z old.begun line reception) k.0 r))
  known_step old _ line _ k (s.served user o n h) = (s.served user o n h, k)
  known_step old _ line _ k (s.withheld user o n h) = (s.withheld user o n h, k)

  known_through : (old new : SessionState K) (line text : List ℕ) → IsKnown old → AnswersThrough desk old line text new → AnswersThrough desk old line text new × IsKnown new
  known_through old new line text k h = (h, (known_step (record old { pass = h.pass }) new line text k h.answered).1)

  module _ (R : SessionState K → List ℕ → List ℕ → SessionState K → Type 0)
      (stays : (old new : SessionState K) (line text : List ℕ) → IsKnown old → R old line text new → R old line text new × IsKnown new) where
    pub known_end : (r : Result (Unit {0}) SessionFault) (pass : DeskPass K) (last : SessionState K) (traffic : Traffic) (user : User) → last.user ≡ Some user
        → Ends R is_over r (opened (admissions.Known known) pass) last traffic → user ≡ known
    known_end r pass last traffic user named e =
        let all = ends-seen R R (λ z. z) IsKnown stays is_over is_over (λ z. refl) r (opened (admissions.Known known) pass) last traffic (refl, tt) e in
        subst (λ z. IfSome z (λ u. u ≡ known)) named all.1.1

pub login_receives : (file secret own : _) (begun : Option Beginning) (line : List ℕ) (reception : Reception) → Receives (admissions.Login file secret own) begun line reception → ReceivesLogin (arc_value file).users secret own begun line reception
login_receives file secret own None line reception r = r
login_receives file secret own (Some begun) line reception r = r

-- whose session it is that was parked has come by right
pub parked_has_come : {K : Type 0} (desk : DeskLock K) (admission : Admission) (parked : ParkedState K) (ending : Result (Unit {0}) SessionFault) (traffic : Traffic) (user : User)
    → HasEnded desk admission parked ending traffic → parked.user ≡ Some user → HasComeAs admission traffic user
parked_has_come desk admissions.Anyone parked ending traffic user e named = tt
parked_has_come desk (admissions.Known known) parked ending traffic user e named =
    known_end desk known (AnswersThrough desk) (known_through desk known) ending unseeing (resumed (admissions.Known known) parked e.last) traffic user named e.ends
parked_has_come desk (admissions.Login file secret own) parked ending traffic user e named =
    by_end (arc_value file).users secret own (admissions.Login file secret own) (login_receives file secret own) desk
    (AnswersThrough desk) (step_through (arc_value file).users secret own (admissions.Login file secret own) (login_receives file secret own) desk) unseeing (resumed (admissions.Login file secret own) parked e.last) user named ending traffic e.ends

-- and whose it is that was of the protocol of lines
pub SpeaksLines-rightful : {K : Type 0} (desk : DeskLock K) (admission : Admission) (user : User)
    (note : Option (DeskNote K)) (traffic : Traffic)
    → SpeaksLines desk admission (Some user) note traffic
    → HasComeAs admission traffic user
SpeaksLines-rightful desk admission user seen traffic s =
    parked_has_come desk admission s.parked s.ending traffic user s.ended s.user_is
