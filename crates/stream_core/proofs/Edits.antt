-- Edits of lists whose items have rising numbers, each of the item of one number.
use Rattle.std.proofs.Common.{◌≡◌, ◌≢◌, ◌<◌, ℕ, suc, Bool, true, false, cond, List, [], ◌∷◌, map, refl, sym, ap, subst, ◌∙◌, arith}
use Rattle.std.specs.List.{AllByRecursion, AllPairs, filter, fold}
use Rattle.std.proofs.lemmas.List.Elements.{All-from_recursion, recursion_from_All}
use Rattle.std.proofs.lemmas.List.Kept.{AllPairs-cons}
use Rattle.stream_core.specs.declared.effect.Effect.{Effect}
use Rattle.stream_core.specs.Effects.{IsBefore, subject_of}

abbrev tail_of : {A : Type 0} → List A → List A
tail_of [] = []
tail_of (x ∷ xs) = xs

module _ {A X : Type 0} (of : A → ℕ) (number : X → ℕ) (edit : X → List A → List A) (passes : (a : A) (items : List A) (x : X) → of a < number x → edit x (a ∷ items) ≡ a ∷ edit x items) where
  -- the items after all edits
  abbrev pub edited : List A → List X → List A
  edited items xs = fold (λ bs x. edit x bs) items xs

  -- each edit changes the items
  abbrev pub EachEdits : List A → List X → Type 0
  EachEdits items [] = Unit {0}
  EachEdits items (x ∷ xs) = (edit x items ≢ items) × EachEdits (edit x items) xs

  abbrev pub Above : ℕ → List X → Type 0
  Above n xs = AllByRecursion (λ x. n < number x) xs

  -- edits of later items leave the first
  pub edited-behind : (a : A) (items : List A) (xs : List X) → Above (of a) xs → edited (a ∷ items) xs ≡ a ∷ edited items xs
  edited-behind a items [] above = refl
  edited-behind a items (x ∷ xs) above = ap (λ bs. edited bs xs) (passes a items x above.0) ∙ edited-behind a (edit x items) xs above.1

  pub edits-behind : (a : A) (items : List A) (xs : List X) → Above (of a) xs → EachEdits items xs → EachEdits (a ∷ items) xs
  edits-behind a items [] above each = tt
  edits-behind a items (x ∷ xs) above each =
      let here = passes a items x above.0 in (
        (λ same. each.0 (ap tail_of (sym here ∙ same))),
        subst (λ bs. EachEdits bs xs) (sym here) (edits-behind a (edit x items) xs above.1 each.1),
      )

module _ {X : Type 0} (number : X → ℕ) where
  -- the numbers rise
  abbrev pub Up : List X → Type 0
  Up [] = Unit {0}
  Up (x ∷ xs) = AllByRecursion (λ y. number x < number y) xs × Up xs

  module _ (made : X → Effect) (before : (x y : X) → number x < number y → IsBefore (subject_of (made x)) (subject_of (made y))) where
    above-all : (x : X) (xs : List X) → AllByRecursion (λ y. number x < number y) xs → AllByRecursion (λ e. IsBefore (subject_of (made x)) (subject_of e)) (map made xs)
    above-all x [] h = tt
    above-all x (y ∷ ys) h = (before x y h.0, above-all x ys h.1)

    pub rises-up : (xs : List X) → Up xs → AllPairs (λ e f. IsBefore (subject_of e) (subject_of f)) (map made xs)
    rises-up [] h = λ i j d less within. absurd (omega arith)
    rises-up (x ∷ xs) h =
        AllPairs-cons (λ e f. IsBefore (subject_of e) (subject_of f)) (made x) (map made xs)
        (All-from_recursion (λ f. IsBefore (subject_of (made x)) (subject_of f)) (map made xs) (above-all x xs h.0)) (rises-up xs h.1)

-- rising numbers, place by place and by recursion
module _ {X : Type 0} (number : X → ℕ) where
  pub up-from : (xs : List X) → AllPairs (λ x y. number x < number y) xs → Up number xs
  up-from [] h = tt
  up-from (x ∷ xs) h = (
    recursion_from_All (λ y. number x < number y) xs (λ k d within. h 0 (suc k) d (omega arith) (omega arith)),
    up-from xs (λ i j d less within. h (suc i) (suc j) d (omega arith) (omega arith)),
  )

-- what is so of all is so of those that a test keeps
pub kept : {A : Type 0} (P : A → Type 0) (test : A → Bool) (xs : List A) → AllByRecursion P xs → AllByRecursion P (filter test xs)
kept P test [] h = tt
kept P test (x ∷ xs) h = by (test x) (kept P test xs h.1)
  where
    by : (b : Bool) → AllByRecursion P (filter test xs) → AllByRecursion P (cond b (x ∷ filter test xs) (filter test xs))
    by true later = (h.0, later)
    by false later = later
