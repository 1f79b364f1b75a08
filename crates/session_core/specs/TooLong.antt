-- Lines that are too long are answered alike.
use Rattle.std.specs.Arc.{arc_value}
use Rattle.std.specs.Prelude.{◌≡◌, ℕ, ◌<◌, List, ◌++◌, length, Option, Some, None, Err}
use Rattle.std.proofs.Common.{arith, sym, inl, inr, ◌∙◌}
use Rattle.std.proofs.lemmas.Bool.Decides.{nat_tests}
use Rattle.base_core.specs.declared.name.User.{User}
use Rattle.base_core.specs.declared.value.Moment.{Moment}
use Rattle.lexer_core.specs.declared.fault.Code.{Code}
use Rattle.lexer_core.specs.declared.fault.Code.TheVariants as faults
use Rattle.lexer_core.specs.declared.lexer.TheConstants.{MAX_LINE}
use Rattle.lines_core.specs.declared.line.TheConstants.{LONGEST_LINE}
use Rattle.lexer_core.specs.Lexing.{long_line, behind}
use Rattle.reader_core.specs.Language.{IsReadFault, lexical, nothing, ungrammatical}
use Rattle.desk_core.specs.Guarded.{DeskLock, DeskPass}
use Rattle.session_core.specs.declared.admission.Admission.{Admission}
use Rattle.session_core.specs.declared.admission.Admission.TheVariants as admissions
use Rattle.session_core.specs.declared.reception.Reception.{Reception}
use Rattle.session_core.specs.declared.reception.Reception.TheVariants as receptions
use Rattle.session_core.specs.declared.answering.Session.{Session}
use Rattle.session_core.specs.Greeting.{greeting}
use Rattle.login_core.specs.Users.{Users}
use Rattle.login_core.specs.Login.{Beginning}
use Rattle.session_core.specs.Admission.{ReceivesName, ReceivesKnown, ReceivesOpening, ReceivesLast, Receives, longest_message}
use Rattle.session_core.specs.Parking.{AnswersThrough}
use Rattle.session_core.specs.Session.{SessionState, AnswersUser, faulty, said, unread, AnswersSession, SessionAnswers, progress_of, ended, received, served, withheld}

greeting-too_long : (line : List ℕ) → MAX_LINE < length line → greeting line ≡ Err (faults.TooLong, MAX_LINE)
greeting-too_long line h = grind (arith, nat_tests)

read_fault-too_long : (line other : List ℕ) (code : Code) (offset : ℕ)
    → MAX_LINE < length line
    → MAX_LINE < length other
    → IsReadFault line code offset
    → IsReadFault other code offset
read_fault-too_long line other _ _ h k (lexical (long_line l)) = lexical (long_line k)
read_fault-too_long line other _ _ h k (lexical (behind short lexed fails)) = absurd (omega (arith, h, short))
read_fault-too_long line other _ _ h k (nothing are) = let s = are.short in absurd (omega (arith, h, s))
read_fault-too_long line other _ _ h k (ungrammatical are fault) = let s = are.short in absurd (omega (arith, h, s))

AnswersUser-too_long : {K : Type 0} (desk : DeskLock K) (user : User) (old new : DeskPass K) (line other text : List ℕ) (at : Option Moment)
    → MAX_LINE < length line
    → MAX_LINE < length other
    → AnswersUser desk user line old text at new
    → AnswersUser desk user other old text at new
AnswersUser-too_long desk user old _ line other _ _ h k (faulty {code} {offset} f) = faulty (read_fault-too_long line other code offset h k f)
AnswersUser-too_long desk user old new line other text _ h k (said asked reply spelled same a tells) =
    let s = spelled.says.short in absurd (omega (arith, h, s))
AnswersUser-too_long desk user old _ line other _ _ h k (unread s) = absurd (omega (arith, h, s))

-- both are greeted alike
same-greeting : (line other : List ℕ) → LONGEST_LINE < length line → LONGEST_LINE < length other
    → greeting line ≡ greeting other
same-greeting line other h k =
    greeting-too_long line (omega (arith, h)) ∙ sym (greeting-too_long other (omega (arith, k)))

ReceivesName-too_long : (line other : List ℕ) (reception : Reception) → greeting line ≡ greeting other
    → ReceivesName line reception
    → ReceivesName other reception
ReceivesName-too_long line other (receptions.Welcomed user answer) same r = (sym same ∙ r.0, r.1)
ReceivesName-too_long line other (receptions.Faulty code offset) same r = sym same ∙ r
ReceivesName-too_long line other (receptions.Challenged begun) same r = r
ReceivesName-too_long line other receptions.Refused same r = r
ReceivesName-too_long line other receptions.Unread same r = r

ReceivesKnown-too_long : (known : User) (line other : List ℕ) (reception : Reception)
    → greeting line ≡ greeting other
    → ReceivesKnown known line reception
    → ReceivesKnown known other reception
ReceivesKnown-too_long known line other (receptions.Welcomed user answer) same r =
    (sym same ∙ r.0, r.1, r.2)
ReceivesKnown-too_long known line other (receptions.Faulty code offset) same (inl e) = inl (sym same ∙ e)
ReceivesKnown-too_long known line other (receptions.Faulty code offset) same (inr n) =
    inr ((n.0.0, sym same ∙ n.0.1, n.0.2), n.1, n.2)
ReceivesKnown-too_long known line other (receptions.Challenged begun) same r = r
ReceivesKnown-too_long known line other receptions.Refused same r = r
ReceivesKnown-too_long known line other receptions.Unread same r = r

-- neither line is a message of a login
module _ (line other : List ℕ) (h : longest_message < length line) (k : longest_message < length other) where
  ReceivesOpening-too_long : (users : Users) (secret own : List ℕ) (reception : Reception)
      → ReceivesOpening users secret own line reception
      → ReceivesOpening users secret own other reception
  ReceivesOpening-too_long users secret own (receptions.Challenged begun) r =
      let short = r.0 in absurd (omega (arith, h, short))
  ReceivesOpening-too_long users secret own (receptions.Faulty code offset) r =
      (r.0, r.1, λ short. absurd (omega (arith, k, short)))
  ReceivesOpening-too_long users secret own receptions.Unread r = absurd (omega (arith, h, r))
  ReceivesOpening-too_long users secret own (receptions.Welcomed user answer) r = r
  ReceivesOpening-too_long users secret own receptions.Refused r = r

  ReceivesLast-too_long : (users : Users) (begun : Beginning) (reception : Reception)
      → ReceivesLast users begun line reception
      → ReceivesLast users begun other reception
  ReceivesLast-too_long users begun (receptions.Welcomed user answer) r =
      let short = r.0 in absurd (omega (arith, h, short))
  ReceivesLast-too_long users begun receptions.Refused r = λ short. absurd (omega (arith, k, short))
  ReceivesLast-too_long users begun receptions.Unread r = absurd (omega (arith, h, r))
  ReceivesLast-too_long users begun (receptions.Challenged other_begun) r = r
  ReceivesLast-too_long users begun (receptions.Faulty code offset) r = r

Receives-too_long : (admission : Admission) (begun : Option Beginning) (line other : List ℕ)
    (reception : Reception)
    → LONGEST_LINE < length line
    → LONGEST_LINE < length other
    → Receives admission begun line reception
    → Receives admission begun other reception
Receives-too_long admissions.Anyone begun line other reception h k r =
    ReceivesName-too_long line other reception (same-greeting line other h k) r
Receives-too_long (admissions.Known user) begun line other reception h k r =
    ReceivesKnown-too_long user line other reception (same-greeting line other h k) r
Receives-too_long (admissions.Login file secret own) None line other reception h k r =
    ReceivesOpening-too_long line other (omega (arith, h)) (omega (arith, k)) (arc_value file).users secret own
    reception r
Receives-too_long (admissions.Login file secret own) (Some begun) line other reception h k r =
    ReceivesLast-too_long line other (omega (arith, h)) (omega (arith, k)) (arc_value file).users begun reception r

pub AnswersSession-too_long : {K : Type 0} (desk : DeskLock K) (old new : SessionState K) (line other text : List ℕ)
    → LONGEST_LINE < length line
    → LONGEST_LINE < length other
    → AnswersSession desk old line text new
    → AnswersSession desk old other text new
AnswersSession-too_long desk old _ line other _ h k (ended o) = ended o
AnswersSession-too_long desk old _ line other _ h k (received reception o n r) =
    received reception o n (Receives-too_long old.admission old.begun line other reception h k r)
AnswersSession-too_long desk old _ line other _ h k (served {text} {at} {pass} user o u a) =
    served user o u (AnswersUser-too_long desk user old.pass pass line other text at (omega (arith, h)) (omega (arith, k)) a)
AnswersSession-too_long desk old _ line other _ h k (withheld {pass} user o u w) =
    let s = w.spelled.says.short in absurd (omega (arith, h, s))

-- and so they are through any pass that has seen no less
pub AnswersThrough-too_long : {K : Type 0} (desk : DeskLock K) (old new : SessionState K) (line other text : List ℕ)
    → LONGEST_LINE < length line
    → LONGEST_LINE < length other
    → AnswersThrough desk old line text new
    → AnswersThrough desk old other text new
AnswersThrough-too_long desk old new line other text h k a = record {
  pass = a.pass;
  sees = a.sees;
  answered = AnswersSession-too_long desk (record old { pass = a.pass }) new line other text h k a.answered;
}

pub SessionAnswers-too_long : {K R G : Type 0} (old new : Session K R G) (line other text : List ℕ)
    → LONGEST_LINE < length line
    → LONGEST_LINE < length other
    → SessionAnswers old line text new
    → SessionAnswers old other text new
SessionAnswers-too_long old new line other text h k a = record {
  begins = λ none rest tells.
      AnswersSession-too_long old.desk.now (progress_of old) (progress_of new) line other (text ++ rest) h k (a.begins none rest tells);
  lent = a.lent;
  whole = a.whole;
}
