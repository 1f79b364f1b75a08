-- What a history tells at a place.
use Rattle.std.proofs.Common.{◌≡◌, ℕ, ◌<◌, ◌-◌, List, Option, Some, None, length, get_or, refl, sym, ap, ◌∙◌, subst, arith, ⊎_elim, ◌≤◌}
use Rattle.std.specs.List.{slice_get}
use Rattle.std.proofs.lemmas.Option.{slice_get_within, slice_get_read, slice_get_cases, get_or_from_slice_get}
use Rattle.base_core.specs.declared.value.Moment.{Moment}
use Rattle.grants_core.specs.declared.grant.Change.{Change}
use Rattle.grants_core.specs.declared.grant.Ownership.{Ownership}
use Rattle.grants_core.specs.History.{owners_after}
use Rattle.explain_core.specs.declared.life.Life.{Life}
use Rattle.explain_core.specs.Lives.{lives_of}
use Rattle.explain_core.specs.Falls.{IsChangeAt}
use Rattle.explain_core.specs.Kept.{Explains, IsSupported}
use Rattle.explain_core.proofs.LifeLemmas.{life-number}

module _ (changes : List Change) (owners : List Ownership) (lives : List Life) (supports : List (Option ℕ)) (kept : Explains changes owners lives supports) where
  -- a place of the lives has one
  pub life_at : (place : ℕ) → place < length lives → (life : Life) × (slice_get (lives_of changes) place ≡ Some life)
  life_at place within =
      let At : List Life → Type 0 = λ l. (life : Life) × (slice_get l place ≡ Some life) in
      subst At kept.lives_are
      (⊎_elim
      (λ (some : (life : Life) × (place < length lives) × (slice_get lives place ≡ Some life) × (get_or lives place life ≡ life)). (some.0, some.2))
      (λ (past : (length lives ≤ place) × (slice_get lives place ≡ None)). let le : length lives ≤ place = past.0 in absurd (omega (arith, le, within)))
      (slice_get_cases lives place).1)

  -- what is read there
  pub is_life : (place : ℕ) (life : Life) → place < length lives → life ≡ get_or lives place life → slice_get (lives_of changes) place ≡ Some life
  is_life place life within is =
      ap (λ (l : List Life). slice_get l place) (sym kept.lives_are) ∙ slice_get_read lives (length lives) place life refl within is

  pub is_within : (place : ℕ) (life : Life) → slice_get (lives_of changes) place ≡ Some life → place < length lives
  is_within place life at = slice_get_within lives place life (ap (λ (l : List Life). slice_get l place) kept.lives_are ∙ at)

  -- what is read of the supports there
  pub support_of : (place : ℕ) (life : Life) (support : Option ℕ) → slice_get (lives_of changes) place ≡ Some life → support ≡ get_or supports place support → IsSupported changes (owners_after changes) (lives_of changes) life support
  support_of place life support at is =
      let Owned : List Ownership → Type 0 = λ o. IsSupported changes o (lives_of changes) life support in
      let In : List Life → Type 0 = λ l. IsSupported changes owners l life support in
      let there : slice_get lives place ≡ Some life = ap (λ (l : List Life). slice_get l place) kept.lives_are ∙ at in
      let within : place < length supports = let less = slice_get_within lives place life there in let many = kept.as_many in omega (arith, less, many) in
      subst Owned kept.owners_of (subst In kept.lives_are (kept.supported place life support there (slice_get_read supports (length supports) place support refl within is)))

  -- a support is at an earlier place
  pub support_before : (place support : ℕ) (life : Life) → slice_get (lives_of changes) place ≡ Some life → IsSupported changes (owners_after changes) (lives_of changes) life (Some support) → (support < place) × (support < length lives)
  support_before place support life at is =
      let number = life-number changes place life at in
      let before : support < life.grant.number = is.0 in
      (omega (arith, number, before), is_within support is.1 is.2)

  pub same_life : (place : ℕ) (life read : Life) → slice_get (lives_of changes) place ≡ Some life → read ≡ get_or lives place read → read ≡ life
  same_life place life read at is =
      is ∙ get_or_from_slice_get lives place life read (ap (λ (l : List Life). slice_get l place) kept.lives_are ∙ at)

-- the history of the changes that it is seen as
pub explained : {owners : List Ownership} {lives : List Life} {supports : List (Option ℕ)} (changes now : List Change) → changes ≡ now → Explains changes owners lives supports → Explains now owners lives supports
explained {owners} {lives} {supports} changes now is h = let P : List Change → Type 0 = λ k. Explains k owners lives supports in subst P is h

-- the change that is read at a moment
pub change_at : (changes now : List Change) → changes ≡ now → (at : Moment) (c : Change) → 1 ≤ at.0 → at.0 ≤ length now → c ≡ get_or changes (at.0 - 1) c → IsChangeAt now at c
change_at changes now same at c first last is =
    let many : length changes ≡ length now = ap length same in
    (at.0 - 1, omega (arith, first), ap (λ (l : List Change). slice_get l (at.0 - 1)) (sym same) ∙ slice_get_read changes (length changes) (at.0 - 1) c refl (omega (arith, first, last, many)) is)
