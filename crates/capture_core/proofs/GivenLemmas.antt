-- Tables that have given all their rows.
use Rattle.std.proofs.Common.{◌≡◌, ℕ, zero, suc, ◌+◌, ◌≤◌, length, List, [], ◌∷◌, take, set, get_or, refl, subst, arith, add-one}
use Rattle.std.specs.List.{sum_by}
use Rattle.std.proofs.lemmas.List.{take_all, nil_from_length}
use Rattle.std.proofs.lemmas.List.Sums.{sum_by-cons}
use Rattle.base_core.specs.declared.value.Row.{Row}
use Rattle.capture_core.specs.Filling.{AreGiven}

-- no row of them is left
pub given-none_left : (rest : List (List Row)) → AreGiven rest → sum_by length rest ≡ 0
given-none_left [] h = refl
given-none_left (r ∷ rs) h =
    let sums = sum_by-cons (length {A = Row}) r rs in
    let first : length r ≡ 0 = subst (λ (l : List Row). length r ≡ length l) h.0 refl in
    let later = given-none_left rs h.1 in
    omega arith

-- and where no row is left, they have
pub given-from_none_left : (rest : List (List Row)) → sum_by length rest ≡ 0 → AreGiven rest
given-from_none_left [] none = tt
given-from_none_left (r ∷ rs) none =
    let sums = sum_by-cons (length {A = Row}) r rs in
    (nil_from_length r (omega arith), given-from_none_left rs (omega arith))

-- the first ones of them have
pub given-first : (rest : List (List Row)) (n : ℕ) → AreGiven rest → AreGiven (take n rest)
given-first [] zero h = tt
given-first [] (suc n) h = tt
given-first (r ∷ rs) zero h = tt
given-first (r ∷ rs) (suc n) h = (h.0, given-first rs n h.1)

pub given-all : (rest : List (List Row)) (n : ℕ) → length rest ≤ n → AreGiven (take n rest) → AreGiven rest
given-all rest n le h = subst AreGiven (take_all n rest le) h

-- the one at a place has
pub given-at : (rest : List (List Row)) (n : ℕ) → AreGiven rest → get_or rest n [] ≡ []
given-at [] n h = refl
given-at (r ∷ rs) zero h = h.0
given-at (r ∷ rs) (suc n) h = given-at rs n h.1

-- what is written behind the first ones leaves them
pub given-set : (rest : List (List Row)) (n : ℕ) (x : List Row) → AreGiven (take n rest) → AreGiven (take n (set rest n x))
given-set [] n x h = h
given-set (r ∷ rs) zero x h = tt
given-set (r ∷ rs) (suc n) x h = (h.0, given-set rs n x h.1)

-- one more has
given-more_suc : (rest : List (List Row)) (n : ℕ) → AreGiven (take n rest) → get_or rest n [] ≡ [] → AreGiven (take (suc n) rest)
given-more_suc [] n h none = tt
given-more_suc (r ∷ rs) zero h none = (none, tt)
given-more_suc (r ∷ rs) (suc n) h none = (h.0, given-more_suc rs n h.1 none)

pub given-more : (rest : List (List Row)) (n : ℕ) → AreGiven (take n rest) → get_or rest n [] ≡ [] → AreGiven (take (n + 1) rest)
given-more rest n h none = rw add-one (given-more_suc rest n h none)
