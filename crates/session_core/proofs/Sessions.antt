-- Sessions, line by line.
use Rattle.std.proofs.Common.{◌≡◌, ℕ, true, false, List, [], ◌++◌, append-nil, inl, inr, Option, Some, None, sym, ap, ◌∙◌, subst, refl}
use Rattle.std.specs.Prelude.{Result}
use Rattle.std.specs.Option.{is_some}
use Rattle.std.specs.Str.Lines.{strip_carriage_return}
use Rattle.std.proofs.lemmas.Bool.{false≢true}
use Rattle.desk_core.specs.Turns.{took}
use Rattle.base_core.specs.declared.name.User.{User}
use Rattle.base_core.specs.declared.value.Moment.{Moment}
use Rattle.base_core.proofs.Fronts.{front-first}
use Rattle.lines_core.specs.Lines.{NoFeed}
use Rattle.lines_core.specs.Serving.{AnswersPart, BreaksPart, Ends, Traffic}
use Rattle.lines_core.specs.declared.serving.SessionFault.{SessionFault}
use Rattle.lines_core.proofs.Parts.{not_open}
use Rattle.lines_core.proofs.Seen.{ends-seen}
use Rattle.reply_core.specs.Pending.{TellsPending}
use Rattle.reply_core.proofs.PendingLemmas.{some_pending}
use Rattle.turnstile.specs.Passes.{IsSamePass}
use Rattle.desk_core.specs.Guarded.{DeskLock, DeskPass}
use Rattle.session_core.specs.Gains.{Gains}
use Rattle.session_core.specs.Session.{SessionState, KeepsLent, SessionAnswers, BeginsSession, progress_of, opened, behind_reception, AnswersUser, faulty, said, unread, Withholds, AnswersSession, ended, received, served, withheld, is_over, GainsOf}
use Rattle.session_core.specs.declared.admission.Admission.{Admission}
use Rattle.session_core.specs.declared.answering.Session.{Session}
use Rattle.session_core.specs.declared.reception.Reception.{Reception}
use Rattle.session_core.specs.declared.reception.Reception.TheVariants as receptions
use Rattle.session_core.proofs.Telling.{whole_begun}
use Rattle.session_core.proofs.Growing.{said_gains, Gains-refl, Gains-trans}

answered_gains : {K : Type 0} (desk : DeskLock K) (user : User) (line text : List ℕ) (at : Option Moment) (old new : DeskPass K) → AnswersUser desk user line old text at new → Gains user old new
answered_gains desk user line _ _ old _ (faulty f) = Gains-refl user old
answered_gains desk user line text _ old new (said asked reply spelled same a tells) = said_gains desk user asked reply old new same a
answered_gains desk user line _ _ old _ (unread s) = Gains-refl user old

gained_served : {K : Type 0} (desk : DeskLock K) (start : DeskPass K) (user : User) (found : Option User) (line text : List ℕ) (at : Option Moment) (old new : DeskPass K) → found ≡ Some user → GainsOf found start old → AnswersUser desk user line old text at new → GainsOf found start new
gained_served desk start user found line text at old new e m s =
    subst (λ z. GainsOf z start new) (sym e) (Gains-trans user start old new (subst (λ z. GainsOf z start old) e m) (answered_gains desk user line text at old new s))

gained_withheld : {K : Type 0} (desk : DeskLock K) (start : DeskPass K) (user : User) (found : Option User) (line : List ℕ) (old new : DeskPass K) → found ≡ Some user → GainsOf found start old → Withholds desk user line old new → GainsOf found start new
gained_withheld desk start user found line old new e m w =
    subst (λ z. GainsOf z start new) (sym e) (Gains-trans user start old new (subst (λ z. GainsOf z start old) e m) (said_gains desk user w.asked w.reply old new w.same (took w.took)))

gained_greeted : {K : Type 0} (start : DeskPass K) (user : User) (found : Option User) (old : DeskPass K) → found ≡ None → GainsOf found start old → Gains user start old
gained_greeted start user found old e m =
    let same : old ≡ start = subst (λ z. GainsOf z start old) e m in
    subst (λ z. Gains user start z) (sym same) (Gains-refl user start)

gained_received : {K : Type 0} (start : DeskPass K) (reception : Reception) (old : SessionState K) → old.user ≡ None → GainsOf old.user start old.pass → GainsOf (behind_reception reception old).user start (behind_reception reception old).pass
gained_received start (receptions.Welcomed user answer) old e m = gained_greeted start user old.user old.pass e m
gained_received start (receptions.Challenged begun) old e m = m
gained_received start (receptions.Faulty code offset) old e m = m
gained_received start receptions.Refused old e m = m
gained_received start receptions.Unread old e m = m

unkept_received : {K : Type 0} (reception : Reception) (old : SessionState K) → old.over ≡ false → (old.unkept ≡ true → old.over ≡ true) → (behind_reception reception old).unkept ≡ true → (behind_reception reception old).over ≡ true
unkept_received (receptions.Welcomed user answer) old o m broken = m broken
unkept_received (receptions.Challenged begun) old o m broken = m broken
unkept_received (receptions.Faulty code offset) old o m broken = refl
unkept_received receptions.Refused old o m broken = refl
unkept_received receptions.Unread old o m broken = refl

gained_step : {K : Type 0} (desk : DeskLock K) (start : DeskPass K) (old new : SessionState K) (line text : List ℕ) → GainsOf old.user start old.pass → AnswersSession desk old line text new → GainsOf new.user start new.pass
gained_step desk start old _ line _ m (ended o) = m
gained_step desk start old _ line _ m (received reception o n r) = gained_received start reception old n m
gained_step desk start old _ line text m (served {at = at} {pass = pass} user o n s) = gained_served desk start user old.user line text at old.pass pass n m s
gained_step desk start old _ line _ m (withheld {pass = pass} user o n w) = gained_withheld desk start user old.user line old.pass pass n m w

-- a session of which a reply was withheld is over
over_step : {K : Type 0} (desk : DeskLock K) (old new : SessionState K) (line text : List ℕ) → (old.unkept ≡ true → old.over ≡ true) → AnswersSession desk old line text new → new.unkept ≡ true → new.over ≡ true
over_step desk old _ line _ m (ended o) = m
over_step desk old _ line _ m (received reception o n r) = unkept_received reception old o m
over_step desk old _ line text m (served {pass = pass} user o n s) = m
over_step desk old _ line _ m (withheld {pass = pass} user o n w) = λ _. refl

pub same_pass : {K : Type 0} (found : Option User) (old new : DeskPass K) → GainsOf found old new → IsSamePass old new
same_pass (Some user) old new m = m.same
same_pass None old new m = (ap (λ z. z.lock) m, ap (λ z. z.number) m)

-- nothing was gained yet
gains_nothing : {K : Type 0} (found : Option User) (pass : DeskPass K) → GainsOf found pass pass
gains_nothing (Some user) pass = Gains-refl user pass
gains_nothing None pass = refl

-- a line leaves the session its pass
pub line_same : {K : Type 0} (desk : DeskLock K) (old new : SessionState K) (line text : List ℕ) → AnswersSession desk old line text new → IsSamePass old.pass new.pass
line_same desk old new line text h = same_pass new.user old.pass new.pass (gained_step desk old.pass old new line text (gains_nothing old.user old.pass) h)

-- and its admission
reception_admission : {K : Type 0} (reception : Reception) (old : SessionState K) → (behind_reception reception old).admission ≡ old.admission
reception_admission (receptions.Welcomed user answer) old = refl
reception_admission (receptions.Challenged begun) old = refl
reception_admission (receptions.Faulty code offset) old = refl
reception_admission receptions.Refused old = refl
reception_admission receptions.Unread old = refl

line_admission : {K : Type 0} (desk : DeskLock K) (old new : SessionState K) (line text : List ℕ) → AnswersSession desk old line text new → new.admission ≡ old.admission
line_admission desk old _ line _ (ended o) = refl
line_admission desk old _ line _ (received reception o n r) = reception_admission reception old
line_admission desk old _ line _ (served user o n s) = refl
line_admission desk old _ line _ (withheld user o n w) = refl

-- what a session's server told of its fields, told of its state
module _ {K R G : Type 0} where
  keeps_first : (x : Session K R G) → KeepsLent x x
  keeps_first x = record { pass = refl; begun = refl; tokens = refl; buffer = refl; owed = refl; desk = refl; holds = refl }

  keeps_on : (x y z : Session K R G) → KeepsLent x y → KeepsLent y z → KeepsLent x z
  keeps_on x y z p q = record {
    pass = q.pass ∙ p.pass;
    begun = q.begun ∙ p.begun;
    tokens = q.tokens ∙ p.tokens;
    buffer = q.buffer ∙ p.buffer;
    owed = q.owed ∙ p.owed;
    desk = q.desk ∙ p.desk;
    holds = q.holds ∙ p.holds;
  }

  -- a line for which nothing is done, where the session is over, or something is owed
  module _ (x y : Session K R G) (line : List ℕ) (same : progress_of y ≡ progress_of x) (lent : KeepsLent x y) (owes : y.owed.now ≡ x.owed.now) where
    pub over_answers : x.over ≡ true → SessionAnswers x line [] y
    over_answers over = record {
      begins = λ free. subst (λ p. BeginsSession x.desk.now (progress_of x) line [] p (progress_of y)) (sym (owes ∙ free))
          (whole_begun (λ text. AnswersSession x.desk.now (progress_of x) line text (progress_of y)) []
          (subst (λ z. AnswersSession x.desk.now (progress_of x) line [] z) (sym same) (ended over)));
      lent = lent;
      whole = λ _. owes;
    }

    pub owing_answers : is_some x.owed.now ≡ true → SessionAnswers x line [] y
    owing_answers owing = record {
      begins = λ free. absurd (false≢true (sym (ap is_some free) ∙ owing));
      lent = lent;
      whole = λ _. owes;
    }

  -- a session of which a reply was withheld is over
  abbrev Ended : Session K R G → Type 0
  Ended x = x.unkept ≡ true → x.over ≡ true

  pub record Kept (start x : Session K R G) : Type 0 where
    pub lent : KeepsLent start x
    pub admission : x.admission.now ≡ start.admission.now
    pub gained : GainsOf x.user start.pass.now x.pass.now
    pub ended : Ended start → Ended x

  kept_first : (x : Session K R G) → Kept x x
  kept_first x = record { lent = keeps_first x; admission = refl; gained = gains_nothing x.user x.pass.now; ended = λ h. h }

  pub kept_same : (x y : Session K R G) → y ≡ x → Kept x y
  kept_same x y same = subst (Kept x) (sym same) (kept_first x)

  -- an answer, and what the session kept over it
  kept_step : (start x y : Session K R G) (line text : List ℕ) → Kept start x → KeepsLent x y → AnswersSession x.desk.now (progress_of x) line text (progress_of y) → AnswersSession start.desk.now (progress_of x) line text (progress_of y) × Kept start y
  kept_step start x y line text k lent s =
      let t : AnswersSession start.desk.now (progress_of x) line text (progress_of y) = subst (λ d. AnswersSession d.now (progress_of x) line text (progress_of y)) k.lent.desk s in
      (t, record { lent = keeps_on start x y k.lent lent; admission = line_admission start.desk.now (progress_of x) (progress_of y) line text t ∙ k.admission; gained = gained_step start.desk.now start.pass.now (progress_of x) (progress_of y) line text k.gained t; ended = λ h. over_step start.desk.now (progress_of x) (progress_of y) line text (k.ended h) t })

  -- one that holds no replies, and owes nothing
  record Whole (start x : Session K R G) : Type 0 where
    kept : Kept start x
    holds : x.holds ≡ false
    free : x.owed.now ≡ None

  whole_step : (start x y : Session K R G) (line text : List ℕ) → Whole start x → SessionAnswers x line text y → AnswersSession start.desk.now (progress_of x) line text (progress_of y) × Whole start y
  whole_step start x y line text w a =
      let free = a.whole w.holds ∙ w.free in
      let answered = subst (λ t. AnswersSession x.desk.now (progress_of x) line t (progress_of y)) (append-nil text) (a.begins w.free [] (subst (λ p. TellsPending p []) (sym free) refl)) in
      let step = kept_step start x y line text w.kept a.lent answered in
      (step.0, record { kept = step.1; holds = a.lent.holds ∙ w.holds; free = free })

  pub session_ends : (admission : Admission) (pass : DeskPass K) (r : Result (Unit {0}) SessionFault) (x y : Session K R G) (traffic : Traffic)
      → Ends SessionAnswers (λ z. z.over) r x y traffic
      → progress_of x ≡ opened admission pass → x.holds ≡ false → x.owed.now ≡ None
      → Ends (AnswersSession x.desk.now) is_over r (opened admission pass) (progress_of y) traffic × KeepsLent x y × GainsOf y.user pass y.pass.now × (y.unkept ≡ true → y.over ≡ true)
  session_ends admission pass r x y traffic e start holds free =
      let kept = λ (broken : x.unkept ≡ true). absurd (false≢true (sym (ap (λ z. z.unkept) start) ∙ broken)) in
      let first : Whole x x = record { kept = kept_first x; holds = holds; free = free } in
      let all = ends-seen SessionAnswers (AnswersSession x.desk.now) progress_of (Whole x) (whole_step x) (λ z. z.over) is_over (λ z. refl) r x y traffic first e in
      let k = all.1.kept in
      (subst (λ z. Ends (AnswersSession x.desk.now) is_over r z (progress_of y) traffic) start all.0, k.lent, subst (λ z. GainsOf y.user z.pass y.pass.now) start k.gained, k.ended kept)

  -- a line, and what it leaves
  pub line_kept : (x y : Session K R G) (line text : List ℕ) → x.owed.now ≡ None → SessionAnswers x line text y → Kept x y
  line_kept x y line text free a =
      let rest = some_pending y.owed.now in
      (kept_step x x y line (text ++ rest.0) (kept_first x) a.lent (a.begins free rest.0 rest.1)).1

  -- the front of a line, or its end
  module _ (rest piece kept : List ℕ) (x y : Session K R G) (taken taken' : Option (List ℕ)) (free : x.owed.now ≡ None) where
    pub part_kept : AnswersPart SessionAnswers rest piece kept x y taken taken' → Kept x y
    part_kept (inl front) = kept_same x y front.same
    part_kept (inr line) = line_kept x y (strip_carriage_return (rest ++ line.part)) line.text free line.answered

    pub part_begins : AnswersPart SessionAnswers rest piece kept x y taken taken' → AnswersPart (λ old l text new. BeginsSession x.desk.now old l text y.owed.now new) rest piece kept (progress_of x) (progress_of y) taken taken'
    part_begins (inl front) = inl (record { no_feed = front.no_feed; kept_is = front.kept_is; same = ap progress_of front.same; unwritten = front.unwritten })
    part_begins (inr line) = inr (record {
      part = line.part;
      text = line.text;
      piece_is = line.piece_is;
      no_feed = line.no_feed;
      kept_is = line.kept_is;
      answered = line.answered.begins free;
      wrote = line.wrote;
    })

    -- where no line ends nothing is owed
    pub part_free : AnswersPart SessionAnswers rest piece kept x y taken taken' → NoFeed piece → y.owed.now ≡ None
    part_free (inl front) h = ap (λ (z : Session K R G). z.owed.now) front.same ∙ free
    part_free (inr line) h = absurd (not_open line.part (subst NoFeed line.piece_is h))

  module _ (rest piece : List ℕ) (x y : Session K R G) (taken taken' : Option (List ℕ)) (free : x.owed.now ≡ None) where
    pub broken_kept : BreaksPart SessionAnswers rest piece x y taken taken' → Kept x y
    broken_kept broken = line_kept x y (strip_carriage_return (rest ++ broken.part)) broken.text free broken.answered

    -- it is the front of a whole answer too
    pub broken_answers : BreaksPart SessionAnswers rest piece x y taken taken' → BreaksPart (AnswersSession x.desk.now) rest piece (progress_of x) (progress_of y) taken taken'
    broken_answers broken =
        let more = some_pending y.owed.now in record {
          part = broken.part;
          behind = broken.behind;
          text = broken.text ++ more.0;
          piece_is = broken.piece_is;
          no_feed = broken.no_feed;
          answered = broken.answered.begins free more.0 more.1;
          wrote = front-first taken taken' broken.text more.0 broken.wrote;
        }
