-- No pairs where one of the lists has come to its end.
use Rattle.std.proofs.Common.{◌≡◌, ℕ, List, [], ◌∷◌, length, drop, refl, ap, ◌∙◌, min, arith, inl, inr}
use Rattle.std.specs.List.{zip}
use Rattle.std.proofs.lemmas.List.{drop_all}
use Rattle.std.proofs.lemmas.Bool.{cases_lt}

zip-nil : {A B : Type 0} (xs : List A) → zip {X = B} xs [] ≡ []
zip-nil [] = refl
zip-nil (x ∷ xs) = refl

pub zip-end : {A B : Type 0} (xs : List A) (ys : List B) (n : ℕ) → n ≡ min (length xs) (length ys) → zip (drop n xs) (drop n ys) ≡ []
zip-end {A = A} {B = B} xs ys n e = elim (cases_lt (length xs) (length ys)) [
  | inl shorter ↦ ap (λ (front : List A). zip front (drop n ys)) (drop_all n xs (omega arith))
  | inr longer ↦ ap (λ (front : List B). zip (drop n xs) front) (drop_all n ys (omega arith)) ∙ zip-nil (drop n xs)
]
