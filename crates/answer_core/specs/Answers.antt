-- What may be written of an answer with rows, and what is then left of it.
use Rattle.std.specs.Prelude.{◌≡◌, ◌⊎◌, ℕ, ◌<◌, ◌≤◌, true, List, ◌++◌, length, take, drop, Option, Some, None, IfSome}
use Rattle.std.specs.List.{concat}
use Rattle.answer_core.specs.Messages.{cut_error, portal_suspended}
use Rattle.answer_core.specs.Remaining.{rows_to_come, is_export, portal_closing, rows_left}
use Rattle.answer_core.specs.declared.unsent.Portal.{Portal}
use Rattle.answer_core.specs.declared.unsent.Unsent.{Unsent}
use Rattle.answer_core.specs.declared.unsent.Progress.{Progress}
use Rattle.answer_core.specs.declared.unsent.Progress.TheVariants as progresses

-- what a portal is once n more of its rows were sent: it has those behind them, and will end as before
pub record Passes (n : ℕ) (before after : Portal) : Type 0 where
  pub rows : rows_left after ≡ drop n (rows_left before)
  pub closing : portal_closing after ≡ portal_closing before
  pub kind : is_export after.remainder ≡ is_export before.remainder

-- All rows are sent that are left, since no fewer were asked for, and then what ends the answer.
pub record SendsAll (unsent : Unsent) (text : List ℕ) (left : Option Portal) : Type 0 where
  pub asked : IfSome unsent.most (λ most. length (rows_left unsent.portal) ≤ most)
  pub said : text ≡ concat (rows_left unsent.portal) ++ portal_closing unsent.portal
  pub none : left ≡ None

-- As many rows are sent as were asked for, and that the portal is suspended: it keeps the others.
pub record Suspends (unsent : Unsent) (text : List ℕ) (left : Option Portal) : Type 0 where
  pub most : ℕ
  pub asked : unsent.most ≡ Some most
  pub more : most < length (rows_left unsent.portal)
  pub said : text ≡ concat (take most (rows_left unsent.portal)) ++ portal_suspended
  pub portal : Portal
  pub passes : Passes most unsent.portal portal
  pub kept : left ≡ Some portal

-- The next record of an export found no memory: some rows are sent, and that the rest is cut.
pub record IsCutShort (unsent : Unsent) (text : List ℕ) (left : Option Portal) : Type 0 where
  pub export : is_export unsent.portal.remainder ≡ true
  pub sent : ℕ
  pub fewer : sent < length (rows_left unsent.portal)
  pub asked : IfSome unsent.most (λ most. sent ≤ most)
  pub said : text ≡ concat (take sent (rows_left unsent.portal)) ++ cut_error
  pub none : left ≡ None

-- what may still be written of an answer, with the portal that is then left, if one is
abbrev pub AnswersUnsent : Unsent → List ℕ → Option Portal → Type 0
AnswersUnsent unsent text left =
    SendsAll unsent text left ⊎ (Suspends unsent text left ⊎ IsCutShort unsent text left)

-- whatever is then left
abbrev pub IsUnsentText : Unsent → List ℕ → Type 0
IsUnsentText unsent text = (left : Option Portal) × AnswersUnsent unsent text left

-- What was written of an answer that has come so far: with whatever is still written, and left of it
-- then, it is one that is given.
abbrev pub Continues : (List ℕ → Option Portal → Type 0) → Progress → List ℕ → Type 0
Continues Gives progresses.Whole text = Gives text None
Continues Gives (progresses.Suspended portal) text = Gives text (Some portal)
Continues Gives (progresses.Part unsent) text =
    (rest : List ℕ) (left : Option Portal) → AnswersUnsent unsent rest left → Gives (text ++ rest) left

-- what was written of an answer from where it was before
abbrev pub SendsMore : Unsent → Progress → List ℕ → Type 0
SendsMore before progress text = Continues (AnswersUnsent before) progress text

-- whatever is still to be written has fewer rows than so many
abbrev pub IsBelow : ℕ → Progress → Type 0
IsBelow count progresses.Whole = Unit {0}
IsBelow count (progresses.Suspended portal) = Unit {0}
IsBelow count (progresses.Part unsent) = rows_to_come unsent < count
