-- Filters, maps and first places of lists.
use Rattle.std.proofs.Common.{◌≡◌, ◌⊎◌, ℕ, ◌<◌, ◌≤◌, ◌+◌, ◌-◌, Bool, true, false, ◌||◌, ◌&&◌, cond, List, [], ◌∷◌, ◌++◌, Some, None, map, reverse, length, take, drop, get_or, zero, suc, refl, sym, ap, ◌∙◌, subst, arith, ⊎_elim, inl, inr, drop-drop, append_assoc}
use Rattle.std.proofs.lemmas.List.{reverse-append, take-append-drop}
use Rattle.std.proofs.Math.Seq.{drop-cons}
use Rattle.std.proofs.lemmas.List.Elements.{All-nil, All-cons, All-pop}
use Rattle.std.specs.List.{All, AllByRecursion, Contains, list_any, filter, find, slice_get, range_with_len}
use Rattle.std.proofs.lemmas.Option.{slice_get_within, slice_get_read, get_or_from_slice_get}
use Rattle.std.proofs.lemmas.Bool.{cases_Bool, cond-true, cond-false, or_cases, or_left, or_right, cases_eq, both_ways, false_from_ne_true}

-- tests that agree on each element keep the same ones
pub filter_alike : {A : Type 0} (p q : A → Bool) (xs : List A) → AllByRecursion (λ x. p x ≡ q x) xs → filter p xs ≡ filter q xs
filter_alike p q [] h = refl
filter_alike p q (x ∷ xs) h =
    ap (λ b. cond b (x ∷ filter p xs) (filter p xs)) h.0 ∙ ap (λ k. cond (q x) (x ∷ k) k) (filter_alike p q xs h.1)

-- functions that agree on each element make the same list
pub map_alike : {A B : Type 0} (f g : A → B) (xs : List A) → AllByRecursion (λ x. f x ≡ g x) xs → map f xs ≡ map g xs
map_alike f g [] h = refl
map_alike f g (x ∷ xs) h = ap (λ k. k ∷ map f xs) h.0 ∙ ap (λ k. g x ∷ k) (map_alike f g xs h.1)

pub filter-map : {A B : Type 0} (p : B → Bool) (f : A → B) (xs : List A) → filter p (map f xs) ≡ map f (filter (λ x. p (f x)) xs)
filter-map p f [] = refl
filter-map {A} p f (x ∷ xs) =
    let rest : List A = filter (λ y. p (f y)) xs in
    ap (λ k. cond (p (f x)) (f x ∷ k) k) (filter-map p f xs)
    ∙ elim (p (f x)) as (λ b. cond b (f x ∷ map f rest) (map f rest) ≡ map f (cond b (x ∷ rest) rest)) [ true ↦ refl | false ↦ refl ]

pub map-map : {A B C : Type 0} (g : B → C) (f : A → B) (xs : List A) → map g (map f xs) ≡ map (λ x. g (f x)) xs
map-map g f [] = refl
map-map g f (x ∷ xs) = ap (λ k. g (f x) ∷ k) (map-map g f xs)

pub list_any-map : {A B : Type 0} (p : B → Bool) (f : A → B) (xs : List A) → list_any p (map f xs) ≡ list_any (λ x. p (f x)) xs
list_any-map p f [] = refl
list_any-map p f (x ∷ xs) = ap (λ k. p (f x) || k) (list_any-map p f xs)

pub filter_both : {A : Type 0} (p q : A → Bool) (xs : List A) → filter (λ x. p x && q x) xs ≡ filter q (filter p xs)
filter_both p q [] = refl
filter_both p q (x ∷ xs) =
    elim (p x) as (λ b. cond (b && q x) (x ∷ filter (λ y. p y && q y) xs) (filter (λ y. p y && q y) xs) ≡ filter q (cond b (x ∷ filter p xs) (filter p xs))) [
      | true ↦ ap (λ k. cond (q x) (x ∷ k) k) (filter_both p q xs)
      | false ↦ filter_both p q xs
    ]

-- two filters may change places
pub filter_swap : {A : Type 0} (p q : A → Bool) (xs : List A) → filter p (filter q xs) ≡ filter q (filter p xs)
filter_swap p q [] = refl
filter_swap {A} p q (x ∷ xs) =
    let one : filter p (cond (q x) (x ∷ filter q xs) (filter q xs)) ≡ cond (q x) (cond (p x) (x ∷ filter p (filter q xs)) (filter p (filter q xs))) (filter p (filter q xs)) =
    elim (q x) as (λ b. filter p (cond b (x ∷ filter q xs) (filter q xs)) ≡ cond b (cond (p x) (x ∷ filter p (filter q xs)) (filter p (filter q xs))) (filter p (filter q xs))) [ true ↦ refl | false ↦ refl ] in
    let two : filter q (cond (p x) (x ∷ filter p xs) (filter p xs)) ≡ cond (p x) (cond (q x) (x ∷ filter q (filter p xs)) (filter q (filter p xs))) (filter q (filter p xs)) =
    elim (p x) as (λ b. filter q (cond b (x ∷ filter p xs) (filter p xs)) ≡ cond b (cond (q x) (x ∷ filter q (filter p xs)) (filter q (filter p xs))) (filter q (filter p xs))) [ true ↦ refl | false ↦ refl ] in
    let same : (a b : Bool) (k : List A) → cond a (cond b (x ∷ k) k) k ≡ cond b (cond a (x ∷ k) k) k = λ a b k. cond_swap a b (x ∷ k) k in
    one ∙ same (q x) (p x) (filter p (filter q xs)) ∙ ap (λ k. cond (p x) (cond (q x) (x ∷ k) k) k) (filter_swap p q xs) ∙ sym two
  where
    cond_swap : {B : Type 0} (a b : Bool) (x y : B) → cond a (cond b x y) y ≡ cond b (cond a x y) y
    cond_swap true true x y = refl
    cond_swap true false x y = refl
    cond_swap false true x y = refl
    cond_swap false false x y = refl

-- what only elements have that pass a test is found among these
pub list_any-filtered : {A : Type 0} (q p : A → Bool) (xs : List A) → ((x : A) → q x ≡ true → p x ≡ true) → list_any q (filter p xs) ≡ list_any q xs
list_any-filtered q p [] implies = refl
list_any-filtered q p (x ∷ xs) implies =
    let rest : list_any q (filter p xs) ≡ list_any q xs = list_any-filtered q p xs implies in
    ⊎_elim
    (λ (pass : p x ≡ true). ap (list_any q) (cond-true (p x) (x ∷ filter p xs) (filter p xs) pass) ∙ ap (λ k. q x || k) rest)
    (λ (fail : p x ≡ false).
    let none : q x ≡ false = false_from_ne_true (q x) (λ some. both_ways (p x) fail (implies x some)) in
    ap (list_any q) (cond-false (p x) (x ∷ filter p xs) (filter p xs) fail) ∙ rest ∙ sym (ap (λ b. b || list_any q xs) none))
    (cases_Bool (p x))

-- what holds of each element holds of the one at a place
pub at_place : {A : Type 0} (P : A → Type 0) (xs : List A) (k : ℕ) (x : A) → AllByRecursion P xs → slice_get xs k ≡ Some x → P x
at_place P [] k x h e = absurd (let never : ⊥ = cc in never)
at_place P (y ∷ ys) zero x h e = let same : y ≡ x = cc in subst P same h.0
at_place P (y ∷ ys) (suc k) x h e = at_place P ys k x h.1 e

-- the same of what holds of each by its place
pub all_at : {A : Type 0} (P : A → Type 0) (xs : List A) (k : ℕ) (x : A) → slice_get xs k ≡ Some x → All P xs → P x
all_at P xs k x e h = subst P (get_or_from_slice_get xs k x x e) (h k x (slice_get_within xs k x e))

-- and what holds of the one at each place holds of each
pub from_places : {A : Type 0} (P : A → Type 0) (xs : List A) → ((k : ℕ) (x : A) → slice_get xs k ≡ Some x → P x) → AllByRecursion P xs
from_places P [] h = tt
from_places P (x ∷ xs) h = (h zero x refl, from_places P xs (λ k y at. h (suc k) y at))

pub Contains-at : {A : Type 0} (xs : List A) (k : ℕ) (x : A) → slice_get xs k ≡ Some x → Contains xs x
Contains-at xs k x at = (k, slice_get_within xs k x at, get_or_from_slice_get xs k x x at)

-- an element that passes is kept, at a place
pub filter-at : {A : Type 0} (p : A → Bool) (xs : List A) (k : ℕ) (x : A) → slice_get xs k ≡ Some x → p x ≡ true → (j : ℕ) × (slice_get (filter p xs) j ≡ Some x)
filter-at p [] k x at pass = absurd (let never : ⊥ = cc in never)
filter-at {A} p (y ∷ ys) zero x at pass =
    let same : x ≡ y = cc in
    let here : p y ≡ true = ap p (sym same) ∙ pass in
    (zero, ap (λ (l : List A). slice_get l zero) (cond-true (p y) (y ∷ filter p ys) (filter p ys) here) ∙ at)
filter-at {A} p (y ∷ ys) (suc k) x at pass =
    let (j, later) = filter-at p ys k x at pass in
    ⊎_elim
    (λ (kept : p y ≡ true). (suc j, ap (λ (l : List A). slice_get l (suc j)) (cond-true (p y) (y ∷ filter p ys) (filter p ys) kept) ∙ later))
    (λ (out : p y ≡ false). (j, ap (λ (l : List A). slice_get l j) (cond-false (p y) (y ∷ filter p ys) (filter p ys) out) ∙ later))
    (cases_Bool (p y))

-- what passes one test passes a weaker one
pub list_any-weaker : {A : Type 0} (p q : A → Bool) (xs : List A) → ((x : A) → p x ≡ true → q x ≡ true) → list_any p xs ≡ true → list_any q xs ≡ true
list_any-weaker p q [] weaker h = h
list_any-weaker p q (x ∷ xs) weaker h =
    ⊎_elim (λ (here : p x ≡ true). or_left (q x) (list_any q xs) (weaker x here))
    (λ (there : list_any p xs ≡ true). or_right (q x) (list_any q xs) (list_any-weaker p q xs weaker there))
    (or_cases (p x) (list_any p xs) h)

pub list_any-at : {A : Type 0} (p : A → Bool) (xs : List A) (k : ℕ) (x : A) → slice_get xs k ≡ Some x → p x ≡ true → list_any p xs ≡ true
list_any-at p [] k x e h = absurd (let never : ⊥ = cc in never)
list_any-at p (y ∷ ys) zero x e h = let same : x ≡ y = cc in or_left (p y) (list_any p ys) (ap p (sym same) ∙ h)
list_any-at p (y ∷ ys) (suc k) x e h = or_right (p y) (list_any p ys) (list_any-at p ys k x e h)

-- the first that passes
module _ {A : Type 0} (p : A → Bool) where
  pub find_none : (xs : List A) → find p xs ≡ None → AllByRecursion (λ x. p x ≡ false) xs
  find_none [] h = tt
  find_none (x ∷ xs) h =
      ⊎_elim
      (λ (here : p x ≡ true). let e : Some x ≡ None = sym (cond-true (p x) (Some x) (find p xs) here) ∙ h in absurd (let never : ⊥ = cc in never))
      (λ (past : p x ≡ false). (past, find_none xs (sym (cond-false (p x) (Some x) (find p xs) past) ∙ h)))
      (cases_Bool (p x))

  pub none_found : (xs : List A) → AllByRecursion (λ x. p x ≡ false) xs → find p xs ≡ None
  none_found [] h = refl
  none_found (x ∷ xs) h = cond-false (p x) (Some x) (find p xs) h.0 ∙ none_found xs h.1

  pub found : (Q : A → Type 0) (xs : List A) (x : A) → AllByRecursion Q xs → find p xs ≡ Some x → Q x
  found Q [] x h e = absurd (let never : ⊥ = cc in never)
  found Q (y ∷ ys) x h e =
      ⊎_elim
      (λ (here : p y ≡ true). let is : Some y ≡ Some x = sym (cond-true (p y) (Some y) (find p ys) here) ∙ e in let same : y ≡ x = cc in subst Q same h.0)
      (λ (past : p y ≡ false). found Q ys x h.1 (sym (cond-false (p y) (Some y) (find p ys) past) ∙ e))
      (cases_Bool (p y))

-- what holds of each number from a on, below a + n
pub All-range : (P : ℕ → Type 0) (a n : ℕ) → ((m : ℕ) → a ≤ m → m < a + n → P m) → AllByRecursion P (range_with_len a n)
All-range P a zero f = tt
All-range P a (suc n) f =
    (f a (omega arith) (omega arith), All-range P (a + 1) n (λ m low high. f m (omega arith) (omega arith)))

pub range-All : (P : ℕ → Type 0) (a n m : ℕ) → AllByRecursion P (range_with_len a n) → a ≤ m → m < a + n → P m
range-All P a zero m h low high = absurd (omega arith)
range-All P a (suc n) m h low high =
    ⊎_elim (λ (same : a ≡ m). subst P same h.0)
    (λ (past : a < m). range-All P (a + 1) n m h.1 (omega arith) (omega arith))
    (first_or_later (cases_eq a m))
  where
    first_or_later : (a ≡ m) ⊎ (a ≡ m → ⊥) → (a ≡ m) ⊎ (a < m)
    first_or_later (inl same) = inl same
    first_or_later (inr apart) = inr (omega arith)

-- what is found among those that pass passes both tests
pub list_any-both : {A : Type 0} (p q : A → Bool) (xs : List A) → list_any q (filter p xs) ≡ list_any (λ x. p x && q x) xs
list_any-both p q [] = refl
list_any-both p q (x ∷ xs) =
    elim (p x) as (λ b. list_any q (cond b (x ∷ filter p xs) (filter p xs)) ≡ ((b && q x) || list_any (λ y. p y && q y) xs)) [
      | true ↦ ap (λ k. q x || k) (list_any-both p q xs)
      | false ↦ list_any-both p q xs
    ]

pub Contains-any : {A : Type 0} (p : A → Bool) (xs : List A) (x : A) → Contains xs x → p x ≡ true → list_any p xs ≡ true
Contains-any p xs x there pass = let (k, within, is) = there in list_any-at p xs k x (slice_get_read xs (length xs) k x refl within (sym is)) pass

pub All-reversed : {A : Type 0} (P : A → Type 0) (xs : List A) → All P (reverse xs) → All P xs
All-reversed P [] h = All-nil P
All-reversed P (x ∷ xs) h =
    let parts = All-pop P (reverse (x ∷ xs)) (reverse xs) (Some x) (reverse-append (x ∷ []) xs) h in
    All-cons P x xs parts.1 (All-reversed P xs parts.0)

-- from the element at a place on
pub drop-here : {A : Type 0} (xs : List A) (at : ℕ) (x : A) → at < length xs → x ≡ get_or xs at x → drop at xs ≡ x ∷ drop (at + 1) xs
drop-here xs at x within is =
    let next : suc at ≡ at + 1 = omega arith in
    drop-cons xs at x within ∙ ap (λ n. get_or xs at x ∷ drop n xs) next ∙ ap (λ y. y ∷ drop (at + 1) xs) (sym is)

-- what is before a place, what is there, and what is behind it
pub split-here : {A : Type 0} (xs : List A) (at : ℕ) (x : A) → at < length xs → x ≡ get_or xs at x → xs ≡ take at xs ++ x ∷ drop (at + 1) xs
split-here xs at x within is = sym (take-append-drop at xs) ∙ ap (λ k. take at xs ++ k) (drop-here xs at x within is)

-- what is at a place
pub item-here : {A : Type 0} (xs : List A) (at : ℕ) → at < length xs → (x : A) × (x ≡ get_or xs at x)
item-here [] at within = absurd (omega (arith, within))
item-here (y ∷ ys) zero within = (y, refl)
item-here (y ∷ ys) (suc at) within = item-here ys at (omega (arith, within))

-- what is before a place, what is from there up to another, and what is behind that
pub split-range : {A : Type 0} (xs : List A) (from to : ℕ) → from ≤ to → to ≤ length xs → (take from xs ++ take (to - from) (drop from xs)) ++ drop to xs ≡ xs
split-range xs from to some within =
    let there : from + (to - from) ≡ to = omega (arith, some) in
    append_assoc (take from xs) (take (to - from) (drop from xs)) (drop to xs)
    ∙ ap (λ k. take from xs ++ (take (to - from) (drop from xs) ++ k)) (sym (drop-drop (to - from) from xs ∙ ap (λ n. drop n xs) there))
    ∙ ap (λ k. take from xs ++ k) (take-append-drop (to - from) (drop from xs))
    ∙ take-append-drop from xs
