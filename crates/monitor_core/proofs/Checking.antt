-- Checks of each item of a list, by the first item that fails.
use Rattle.std.proofs.Common.{◌≡◌, List, [], ◌∷◌, ℕ, zero, suc, ◌+◌, length, take, get_or, arith, refl, sym, ◌∙◌, Result, Ok, Err, OnOk, map, ap, ◌++◌}
use Rattle.std.specs.List.{AllByRecursion, flat_map}
use Rattle.std.proofs.lemmas.List.{map-append}
use Rattle.base_core.specs.declared.lack.Lack.{Lack}
use Rattle.monitor_core.specs.Verdict.{Check, first_lack, each}

abbrev pub Passed : List Check → Type 0
Passed checks = AllByRecursion (λ check. check ≡ Ok tt) checks

-- the checks before the one at n have passed, and that one fails
pub failure_told : (n : ℕ) (checks : List Check) (lack : Lack) → Passed (take n checks) → get_or checks n (Ok tt) ≡ Err lack → first_lack checks ≡ get_or checks n (Ok tt)
failure_told n [] lack h e = cc
failure_told zero (check ∷ more) lack h e = ap (λ c. first_lack (c ∷ more)) e ∙ sym e
failure_told (suc n) (check ∷ more) lack h e = ap (λ c. first_lack (c ∷ more)) h.0 ∙ failure_told n more lack h.1 e

-- the checks before the one at n have passed, and that one is the last
pub last_told : (n : ℕ) (checks : List Check) → Passed (take n checks) → length checks ≡ n + 1 → first_lack checks ≡ get_or checks n (Ok tt)
last_told n [] h e = cc
last_told zero (Ok u ∷ []) h e = refl
last_told zero (Err lack ∷ []) h e = refl
last_told (suc n) (check ∷ []) h e = absurd (omega (arith, e))
last_told zero (check ∷ next ∷ more) h e = absurd (omega (arith, e))
last_told (suc n) (check ∷ next ∷ more) h e = ap (λ c. first_lack (c ∷ next ∷ more)) h.0 ∙ last_told n (next ∷ more) h.1 (omega (arith, e))

-- the checks of all items, where the first passes
pub each-passed : {A : Type 0} (check : A → Check) (x : A) (xs : List A) → check x ≡ Ok tt → each (x ∷ xs) check ≡ each xs check
each-passed check x xs h = ap (λ c. first_lack (c ∷ map check xs)) h

-- the checks of all items, where the first fails
pub each-failed : {A : Type 0} (check : A → Check) (x : A) (xs : List A) (lack : Lack) → check x ≡ Err lack → each (x ∷ xs) check ≡ Err lack
each-failed check x xs lack h = ap (λ c. first_lack (c ∷ map check xs)) h

-- the checks of a list and then of more
first_lack-append : (checks more : List Check) → first_lack (checks ++ more) ≡ first_lack (first_lack checks ∷ more)
first_lack-append [] more = refl
first_lack-append (Ok u ∷ checks) more = first_lack-append checks more
first_lack-append (Err lack ∷ checks) more = refl

behind : (check : Check) (xs ys : List Check) → first_lack xs ≡ first_lack ys → first_lack (check ∷ xs) ≡ first_lack (check ∷ ys)
behind (Ok u) xs ys h = h
behind (Err lack) xs ys h = refl

-- the checks of what each item gives
pub each-flat_map : {A B : Type 0} (f : A → List B) (check : B → Check) (xs : List A) → each (flat_map f xs) check ≡ each xs (λ x. each (f x) check)
each-flat_map f check [] = refl
each-flat_map f check (x ∷ xs) =
    ap first_lack (map-append check (f x) (flat_map f xs))
    ∙ (first_lack-append (map check (f x)) (map check (flat_map f xs))
    ∙ behind (each (f x) check) (map check (flat_map f xs)) (map (λ y. each (f y) check) xs) (each-flat_map f check xs))

pub each-map : {A B : Type 0} (f : A → B) (check : B → Check) (xs : List A) → each (map f xs) check ≡ each xs (λ x. check (f x))
each-map f check [] = refl
each-map f check (x ∷ xs) = behind (check (f x)) (map check (map f xs)) (map (λ y. check (f y)) xs) (each-map f check xs)

-- the check of one
pub each-one : {A : Type 0} (check : A → Check) (x : A) → each (x ∷ []) check ≡ check x
each-one check x = one (check x)
  where
    one : (c : Check) → first_lack (c ∷ []) ≡ c
    one (Ok tt) = refl
    one (Err lack) = refl

-- what holds where a result is Ok, where it is
pub told-Ok : {A E : Type 0} (r : Result A E) (x : A) (P : Type 0) → OnOk r P → r ≡ Ok x → P
told-Ok (Ok y) x P h e = h
told-Ok (Err y) x P h e = cc
