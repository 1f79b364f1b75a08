-- The numbers of grants rise.
use Rattle.std.proofs.Common.{◌≡◌, ℕ, ◌+◌, ◌*◌, ◌<◌, ◌≤◌, Bool, not, List, [], ◌∷◌, ◌++◌, length, get_or, map, zero, suc, refl, sym, ap, ◌∙◌, arith, zero-mul, suc-mul}
use Rattle.std.specs.List.{AllByRecursion, All, AllPairs, filter, range_with_len}
use Rattle.std.proofs.lemmas.List.{map-append, length-map, get_or-map}
use Rattle.std.proofs.lemmas.List.Elements.{All-append, All-filter, All-from_recursion, recursion_from_All}
use Rattle.std.proofs.lemmas.List.Kept.{AllPairs-cons, AllPairs-filter}
use Rattle.std.proofs.lemmas.List.FromFn.{length-range_with_len, get_or-range_with_len}
use Rattle.base_core.specs.declared.name.User.{User}
use Rattle.base_core.specs.declared.privilege.Atom.{Atom}
use Rattle.base_core.specs.declared.value.Moment.{Moment}
use Rattle.grants_core.specs.declared.grant.Grant.{Grant}
use Rattle.grants_core.specs.declared.grant.Ownership.{Ownership}
use Rattle.grants_core.specs.declared.grant.Change.{Change}
use Rattle.grants_core.specs.declared.grant.Change.TheVariants as change
use Rattle.grants_core.specs.Valid.{valid, IsPart, nothing, with_first, without_first}
use Rattle.grants_core.specs.Numbers.{IsNumbered}
use Rattle.grants_core.specs.Content.{to_each, singles, option_off}
use Rattle.grants_core.specs.History.{made_by, made_by_all, grants_of, granted_from, granted, is_struck, is_unoptioned, owners_after, unstruck_after, left_after, in_force_after}
use Rattle.grants_core.proofs.OptionLemmas.{All-options_off}
use Rattle.grants_core.proofs.ValidLemmas.{valid-part}

abbrev number_of : Grant → ℕ
number_of g = g.number

abbrev Rises : Grant → Grant → Type 0
Rises earlier later = earlier.number < later.number

range-append : (a m n : ℕ) → range_with_len a (m + n) ≡ range_with_len a m ++ range_with_len (a + m) n
range-append a zero n =
    let none : zero + n ≡ n = omega arith in
    let same : a ≡ a + zero = omega arith in
    ap (range_with_len a) none ∙ ap (λ k. range_with_len k n) same
range-append a (suc m) n =
    let one : suc m + n ≡ suc (m + n) = omega arith in
    let next : (a + 1) + m ≡ a + suc m = omega arith in
    ap (range_with_len a) one ∙ ap (λ k. a ∷ k) (range-append (a + 1) m n ∙ ap (λ k. range_with_len (a + 1) m ++ range_with_len k n) next)

numbers-to_each : (n : ℕ) (at : Moment) (by : User) (atom : Atom) (whom : List User) (option : Bool) → map number_of (to_each n at by atom whom option) ≡ range_with_len n (length whom)
numbers-to_each n at by atom [] option = refl
numbers-to_each n at by atom (u ∷ us) option = ap (λ k. n ∷ k) (numbers-to_each (n + 1) at by atom us option)

-- the single grants are numbered from n on
pub numbers-singles : (n : ℕ) (at : Moment) (by : User) (atoms : List Atom) (whom : List User) (option : Bool) → map number_of (singles n at by atoms whom option) ≡ range_with_len n (length atoms * length whom)
numbers-singles n at by [] whom option = ap (range_with_len n) (sym (zero-mul (length whom)))
numbers-singles n at by (a ∷ more) whom option =
    let first : List ℕ = range_with_len n (length whom) in
    let count : length whom + length more * length whom ≡ suc (length more) * length whom = omega (arith, suc-mul (length more) (length whom)) in
    map-append number_of (to_each n at by a whom option) (singles (n + length whom) at by more whom option)
    ∙ ap (λ k. k ++ map number_of (singles (n + length whom) at by more whom option)) (numbers-to_each n at by a whom option)
    ∙ ap (λ k. first ++ k) (numbers-singles (n + length whom) at by more whom option)
    ∙ sym (range-append n (length whom) (length more * length whom)) ∙ ap (range_with_len n) count

numbers-grants_of : (n m : ℕ) (c : Change) → map number_of (grants_of n m c) ≡ range_with_len n (made_by c)
numbers-grants_of n m (change.Create table owner) = refl
numbers-grants_of n m (change.Grant by atoms whom option) = numbers-singles n (record { 0 = m }) by atoms whom option
numbers-grants_of n m (change.Revoke by atoms whom) = refl
numbers-grants_of n m (change.RevokeOption by atoms whom) = refl
numbers-grants_of n m (change.Other) = refl

numbers-granted_from : (n m : ℕ) (cs : List Change) → map number_of (granted_from n m cs) ≡ range_with_len n (made_by_all cs)
numbers-granted_from n m [] = refl
numbers-granted_from n m (c ∷ cs) =
    map-append number_of (grants_of n m c) (granted_from (n + made_by c) (m + 1) cs)
    ∙ ap (λ k. k ++ map number_of (granted_from (n + made_by c) (m + 1) cs)) (numbers-grants_of n m c)
    ∙ ap (λ k. range_with_len n (made_by c) ++ k) (numbers-granted_from (n + made_by c) (m + 1) cs)
    ∙ sym (range-append n (made_by c) (made_by_all cs))

-- **each grant that was made has its place as its number**
pub numbers-granted : (cs : List Change) → map number_of (granted cs) ≡ range_with_len 0 (made_by_all cs)
numbers-granted cs = numbers-granted_from 0 1 cs

-- what is numbered in order, from first on
number_at : (first n : ℕ) (grants : List Grant) → map number_of grants ≡ range_with_len first n → (k : ℕ) (d : Grant) → k < length grants → (get_or grants k d).number ≡ first + k
number_at first n grants is k d within =
    let count : length grants ≡ n = sym (length-map grants number_of) ∙ ap length is ∙ length-range_with_len first n in
    let inside : k < n = omega arith in
    sym (get_or-map number_of grants k d 0 within) ∙ ap (λ (l : List ℕ). get_or l k 0) is ∙ get_or-range_with_len first n k 0 inside

rising-from_numbers : (first n : ℕ) (grants : List Grant) → map number_of grants ≡ range_with_len first n → AllPairs Rises grants
rising-from_numbers first n grants is i j d less within =
    let inside : i < length grants = omega arith in
    let one = number_at first n grants is i d inside in
    let two = number_at first n grants is j d within in
    omega arith

below-from_numbers : (first n : ℕ) (grants : List Grant) → map number_of grants ≡ range_with_len first n → All (λ g. g.number < first + n) grants
below-from_numbers first n grants is k d within =
    let count : length grants ≡ n = sym (length-map grants number_of) ∙ ap length is ∙ length-range_with_len first n in
    let one = number_at first n grants is k d within in
    omega arith

above-from_numbers : (first n : ℕ) (grants : List Grant) → map number_of grants ≡ range_with_len first n → All (λ g. first ≤ g.number) grants
above-from_numbers first n grants is k d within = let one = number_at first n grants is k d within in omega arith

pub IsNumbered-granted : (cs : List Change) → IsNumbered (made_by_all cs) (granted cs)
IsNumbered-granted cs =
    let below = below-from_numbers 0 (made_by_all cs) (granted cs) (numbers-granted cs) in
    record {
      rising = rising-from_numbers 0 (made_by_all cs) (granted cs) (numbers-granted cs);
      below = λ k d within. let one = below k d within in omega arith;
    }

pub IsNumbered-filter : (n : ℕ) (p : Grant → Bool) (grants : List Grant) → IsNumbered n grants → IsNumbered n (filter p grants)
IsNumbered-filter n p grants h = record {
  rising = AllPairs-filter Rises p grants h.rising;
  below = All-filter p (λ g. g.number < n) grants h.below;
}

head_pairs : (x : Grant) (xs : List Grant) → AllPairs Rises (x ∷ xs) → All (Rises x) xs
head_pairs x xs h k d within = h 0 (suc k) d (omega arith) (omega arith)

tail_pairs : (x : Grant) (xs : List Grant) → AllPairs Rises (x ∷ xs) → AllPairs Rises xs
tail_pairs x xs h i j d less within = h (suc i) (suc j) d (omega arith) (omega arith)

All-part : (P : Grant → Type 0) (part grants : List Grant) → IsPart part grants → AllByRecursion P grants → AllByRecursion P part
All-part P _ _ nothing h = tt
All-part P _ _ (with_first {xs = xs} {ys = ys} rest) h = (h.0, All-part P xs ys rest h.1)
All-part P part _ (without_first {ys = ys} rest) h = All-part P part ys rest h.1

rising-part : (part grants : List Grant) → IsPart part grants → AllPairs Rises grants → AllPairs Rises part
rising-part _ _ nothing h = h
rising-part _ _ (with_first {g = g} {xs = xs} {ys = ys} rest) h =
    AllPairs-cons Rises g xs
    (All-from_recursion (Rises g) xs (All-part (Rises g) xs ys rest (recursion_from_All (Rises g) ys (head_pairs g ys h))))
    (rising-part xs ys rest (tail_pairs g ys h))
rising-part part _ (without_first {g = g} {ys = ys} rest) h = rising-part part ys rest (tail_pairs g ys h)

-- a part of what is numbered is numbered
pub IsNumbered-part : (n : ℕ) (part grants : List Grant) → IsPart part grants → IsNumbered n grants → IsNumbered n part
IsNumbered-part n part grants of h =
    let Below : Grant → Type 0 = λ g. g.number < n in
    record {
      rising = rising-part part grants of h.rising;
      below = All-from_recursion Below part (All-part Below part grants of (recursion_from_All Below grants h.below));
    }

pub IsNumbered-valid : (n : ℕ) (o : List Ownership) (grants : List Grant) → IsNumbered n grants → IsNumbered n (valid o grants)
IsNumbered-valid n o grants h = IsNumbered-part n (valid o grants) grants (valid-part o grants) h

rising-options_off : (test : Grant → Bool) (grants : List Grant) → AllPairs Rises grants → AllPairs Rises (map (option_off test) grants)
rising-options_off test [] h = h
rising-options_off test (g ∷ gs) h =
    let off : Grant = option_off test g in
    AllPairs-cons Rises off (map (option_off test) gs)
    (All-from_recursion (Rises off) (map (option_off test) gs)
    (All-options_off (Rises g) test gs (λ k less. less) (recursion_from_All (Rises g) gs (head_pairs g gs h))))
    (rising-options_off test gs (tail_pairs g gs h))

-- what is numbered is so without its options
pub IsNumbered-options_off : (n : ℕ) (test : Grant → Bool) (grants : List Grant) → IsNumbered n grants → IsNumbered n (map (option_off test) grants)
IsNumbered-options_off n test grants h =
    let Below : Grant → Type 0 = λ g. g.number < n in
    record {
      rising = rising-options_off test grants h.rising;
      below = All-from_recursion Below (map (option_off test) grants) (All-options_off Below test grants (λ g less. less) (recursion_from_All Below grants h.below));
    }

-- **so are the grants in force**
pub IsNumbered-in_force : (cs : List Change) → IsNumbered (made_by_all cs) (in_force_after cs)
IsNumbered-in_force cs =
    IsNumbered-valid (made_by_all cs) (owners_after cs) (left_after cs)
    (IsNumbered-options_off (made_by_all cs) (is_unoptioned cs) (unstruck_after cs)
    (IsNumbered-filter (made_by_all cs) (λ g. not (is_struck cs g)) (granted cs) (IsNumbered-granted cs)))

rising-append : (xs ys : List Grant) → AllPairs Rises xs → AllPairs Rises ys → AllByRecursion (λ x. All (Rises x) ys) xs → AllPairs Rises (xs ++ ys)
rising-append [] ys h k across = k
rising-append (x ∷ xs) ys h k across =
    AllPairs-cons Rises x (xs ++ ys) (All-append (Rises x) xs ys (head_pairs x xs h) across.0)
    (rising-append xs ys (tail_pairs x xs h) k across.1)

-- single grants that are numbered from n on follow grants below n
pub IsNumbered-added : (n : ℕ) (grants : List Grant) (at : Moment) (by : User) (atoms : List Atom) (whom : List User) (option : Bool) → IsNumbered n grants → IsNumbered (n + length atoms * length whom) (grants ++ singles n at by atoms whom option)
IsNumbered-added n grants at by atoms whom option h =
    let new : List Grant = singles n at by atoms whom option in
    let count : ℕ = length atoms * length whom in
    let is = numbers-singles n at by atoms whom option in
    let Across : Grant → Type 0 = λ x. All (Rises x) new in
    let above = above-from_numbers n count new is in
    record {
      rising = rising-append grants new h.rising (rising-from_numbers n count new is)
          (recursion_from_All Across grants (λ k d within j e inside. let one = h.below k d within in let two = above j e inside in omega arith));
      below = All-append (λ g. g.number < n + count) grants new (λ k d within. let one = h.below k d within in omega arith) (below-from_numbers n count new is);
    }
