-- A test of all that a list is mapped to.
use Rattle.std.proofs.Common.{◌≡◌, ◌∙◌, Bool, true, false, ◌||◌, cond, List, [], ◌∷◌, length, map, count_by, refl, sym, ap}
use Rattle.std.specs.List.{AllByRecursion, list_any, filter}
use Rattle.std.proofs.lemmas.List.{length-map}
use Rattle.std.proofs.lemmas.List.Sums.{length-filter}

module _ {A B : Type 0} (f : A → B) (p : B → Bool) (q : A → Bool) where
  pub any_over : (xs : List A) → AllByRecursion (λ x. p (f x) ≡ q x) xs → list_any p (map f xs) ≡ list_any q xs
  any_over [] h = refl
  any_over (x ∷ xs) h = ap (λ b. b || list_any p (map f xs)) h.0 ∙ ap (λ b. q x || b) (any_over xs h.1)

  pub filter_over : (xs : List A) → AllByRecursion (λ x. p (f x) ≡ q x) xs → filter p (map f xs) ≡ map f (filter q xs)
  filter_over [] h = refl
  filter_over (x ∷ xs) h = ap (λ b. cond b (f x ∷ filter p (map f xs)) (filter p (map f xs))) h.0 ∙ step (q x) (filter_over xs h.1)
    where
      step : (t : Bool) → filter p (map f xs) ≡ map f (filter q xs) → cond t (f x ∷ filter p (map f xs)) (filter p (map f xs)) ≡ map f (cond t (x ∷ filter q xs) (filter q xs))
      step true rest = ap (λ k. f x ∷ k) rest
      step false rest = rest

  pub count_over : (xs : List A) → AllByRecursion (λ x. p (f x) ≡ q x) xs → count_by p (map f xs) ≡ count_by q xs
  count_over xs h = sym (length-filter p (map f xs)) ∙ ap length (filter_over xs h) ∙ length-map (filter q xs) f ∙ length-filter q xs

module _ {A : Type 0} where
  pub any_never : (xs : List A) → list_any (λ x. false) xs ≡ false
  any_never [] = refl
  any_never (x ∷ xs) = any_never xs

  filter_never : (xs : List A) → filter (λ x. false) xs ≡ []
  filter_never [] = refl
  filter_never (x ∷ xs) = filter_never xs

  pub count_never : (xs : List A) → count_by (λ x. false) xs ≡ 0
  count_never xs = sym (length-filter (λ x. false) xs) ∙ ap length (filter_never xs)

module _ {A B : Type 0} (f : A → B) (P : B → Type 0) where
  -- what all have of what a list is mapped to
  pub all_over : (xs : List A) → AllByRecursion (λ x. P (f x)) xs → AllByRecursion P (map f xs)
  all_over [] h = tt
  all_over (x ∷ xs) h = (h.0, all_over xs h.1)

  pub all_under : (xs : List A) → AllByRecursion P (map f xs) → AllByRecursion (λ x. P (f x)) xs
  all_under [] h = tt
  all_under (x ∷ xs) h = (h.0, all_under xs h.1)
