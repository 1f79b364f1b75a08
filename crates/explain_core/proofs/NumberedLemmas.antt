-- Grants whose numbers rise, and parts of them.
use Rattle.std.proofs.Common.{◌≡◌, ◌⊎◌, ℕ, ◌<◌, ◌≤◌, ◌+◌, Bool, true, false, ◌||◌, ◌&&◌, List, [], ◌∷◌, Option, Some, None, map, zero, suc, refl, sym, ap, ◌∙◌, subst, arith, ⊎_elim, inl, inr, ◌==◌}
use Rattle.std.specs.List.{AllByRecursion, list_any, filter, slice_get, range_with_len}
use Rattle.std.proofs.lemmas.Bool.{cases_Bool, cond-true, cond-false, or_left, or_from, and_right, ne_eqb, eq-eqb}
use Rattle.std.proofs.lemmas.Option.{slice_get-map}
use Rattle.grants_core.specs.declared.grant.Grant.{Grant}
use Rattle.grants_core.specs.declared.grant.Change.{Change}
use Rattle.grants_core.specs.Valid.{IsPart, nothing, with_first, without_first}
use Rattle.grants_core.specs.History.{granted, made_by_all}
use Rattle.grants_core.proofs.GrantLemmas.{All-implied}
use Rattle.grants_core.proofs.NumberLemmas.{numbers-granted}
use Rattle.explain_core.proofs.ListLemmas.{filter_alike}

-- each number is below those after it
abbrev pub IsRising : List Grant → Type 0
IsRising [] = Unit {0}
IsRising (g ∷ gs) = AllByRecursion (λ h. g.number < h.number) gs × IsRising gs

-- what is numbered in order from first on
pub above-numbered : (first n : ℕ) (gs : List Grant) → map (λ (g : Grant). g.number) gs ≡ range_with_len first n → AllByRecursion (λ g. first ≤ g.number) gs
above-numbered first n [] is = tt
above-numbered first zero (g ∷ gs) is = absurd (let never : ⊥ = cc in never)
above-numbered first (suc n) (g ∷ gs) is =
    let here : g.number ≡ first = cc in
    let rest : map (λ (h : Grant). h.number) gs ≡ range_with_len (first + 1) n = cc in
    (omega (arith, here), All-implied (λ h. first + 1 ≤ h.number) (λ h. first ≤ h.number) gs (λ h le. omega arith) (above-numbered (first + 1) n gs rest))

rising-numbered : (first n : ℕ) (gs : List Grant) → map (λ (g : Grant). g.number) gs ≡ range_with_len first n → IsRising gs
rising-numbered first n [] is = tt
rising-numbered first zero (g ∷ gs) is = absurd (let never : ⊥ = cc in never)
rising-numbered first (suc n) (g ∷ gs) is =
    let here : g.number ≡ first = cc in
    let rest : map (λ (h : Grant). h.number) gs ≡ range_with_len (first + 1) n = cc in
    (All-implied (λ h. first + 1 ≤ h.number) (λ h. g.number < h.number) gs (λ h le. omega (arith, here)) (above-numbered (first + 1) n gs rest), rising-numbered (first + 1) n gs rest)

-- **the numbers of the grants that were made rise, and each is the place of its grant**
pub rising-granted : (cs : List Change) → IsRising (granted cs)
rising-granted cs = rising-numbered 0 (made_by_all cs) (granted cs) (numbers-granted cs)

place-range : (first n k m : ℕ) → slice_get (range_with_len first n) k ≡ Some m → m ≡ first + k
place-range first zero k m h = absurd (let never : ⊥ = cc in never)
place-range first (suc n) zero m h = let is : first ≡ m = cc in omega (arith, is)
place-range first (suc n) (suc k) m h = let is = place-range (first + 1) n k m h in omega (arith, is)

pub number-place : (cs : List Change) (k : ℕ) (g : Grant) → slice_get (granted cs) k ≡ Some g → g.number ≡ k
number-place cs k g at =
    let number : Option ℕ → Type 0 = λ o. o ≡ Some g.number in
    let here : slice_get (map (λ (h : Grant). h.number) (granted cs)) k ≡ Some g.number = slice_get-map (λ (h : Grant). h.number) (granted cs) k ∙ ap (λ (o : Option Grant). elim o as (λ _. Option ℕ) [ Some h ↦ Some h.number | None ↦ None ]) at in
    let there : slice_get (range_with_len 0 (made_by_all cs)) k ≡ Some g.number = ap (λ (l : List ℕ). slice_get l k) (sym (numbers-granted cs)) ∙ here in
    let is = place-range 0 (made_by_all cs) k g.number there in
    omega (arith, is)

-- what holds of each grant holds of each of a part
pub All-part : (P : Grant → Type 0) (part gs : List Grant) → IsPart part gs → AllByRecursion P gs → AllByRecursion P part
All-part P _ _ nothing h = tt
All-part P _ _ (with_first {xs = xs} {ys = ys} rest) h = (h.0, All-part P xs ys rest h.1)
All-part P part _ (without_first {ys = ys} rest) h = All-part P part ys rest h.1

pub rising-part : (part gs : List Grant) → IsPart part gs → IsRising gs → IsRising part
rising-part _ _ nothing h = tt
rising-part _ _ (with_first {g = g} {xs = xs} {ys = ys} rest) h = (All-part (λ k. g.number < k.number) xs ys rest h.0, rising-part xs ys rest h.1)
rising-part part _ (without_first {ys = ys} rest) h = rising-part part ys rest h.1

-- whether one of the grants has the number of this one
abbrev pub has_number_of : List Grant → Grant → Bool
has_number_of gs g = list_any (λ h. h.number == g.number) gs

none_numbered : (gs : List Grant) (g : Grant) → AllByRecursion (λ h. g.number < h.number) gs → has_number_of gs g ≡ false
none_numbered [] g h = refl
none_numbered (x ∷ xs) g h = or_from _ _ (ne_eqb x.number g.number (λ same. let less : g.number < x.number = h.0 in absurd (omega (arith, same)))) (none_numbered xs g h.1)

-- **a part of rising grants are those of which one of it has the number**
pub part-by_number : (part gs : List Grant) → IsPart part gs → IsRising gs → filter (has_number_of part) gs ≡ part
part-by_number _ _ nothing h = refl
part-by_number _ _ (with_first {g = g} {xs = xs} {ys = ys} rest) h =
    let all : Grant → Bool = has_number_of (g ∷ xs) in
    cond-true (all g) (g ∷ filter all ys) (filter all ys) (or_left (g.number == g.number) (has_number_of xs g) (eq-eqb g.number g.number refl))
    ∙ ap (λ k. g ∷ k)
    (filter_alike all (has_number_of xs) ys
    (All-implied (λ k. g.number < k.number) (λ k. all k ≡ has_number_of xs k) ys (λ k less. ap (λ b. b || has_number_of xs k) (ne_eqb g.number k.number (λ same. absurd (omega (arith, less, same))))) h.0)
    ∙ part-by_number xs ys rest h.1)
part-by_number part _ (without_first {g = g} {ys = ys} rest) h =
    cond-false (has_number_of part g) (g ∷ filter (has_number_of part) ys) (filter (has_number_of part) ys) (none_numbered part g (All-part (λ k. g.number < k.number) part ys rest h.0))
    ∙ part-by_number part ys rest h.1

-- where numbers rise, a test of the one with a grant's number is one of the grant
module _ (test : Grant → Bool) where
  none_tested : (gs : List Grant) (g : Grant) → AllByRecursion (λ h. g.number < h.number) gs → list_any (λ h. test h && h.number == g.number) gs ≡ false
  none_tested [] g h = refl
  none_tested (x ∷ xs) g h = or_from _ _ (and_right (test x) (x.number == g.number) (ne_eqb x.number g.number (λ same. let less : g.number < x.number = h.0 in absurd (omega (arith, same))))) (none_tested xs g h.1)

  pub tested-by_number : (gs : List Grant) → IsRising gs → AllByRecursion (λ g. list_any (λ h. test h && h.number == g.number) gs ≡ test g) gs
  tested-by_number [] h = tt
  tested-by_number (g ∷ gs) h =
      let own : (test g && g.number == g.number) ≡ test g = ap (λ b. test g && b) (eq-eqb g.number g.number refl) ∙ and_all (test g) in
      let here : list_any (λ k. test k && k.number == g.number) (g ∷ gs) ≡ test g =
      ap (λ b. (test g && g.number == g.number) || b) (none_tested gs g h.0) ∙ or_none (test g && g.number == g.number) ∙ own in
      (here, later gs h.0 (tested-by_number gs h.1))
    where
      and_all : (b : Bool) → (b && true) ≡ b
      and_all true = refl
      and_all false = refl

      or_none : (b : Bool) → (b || false) ≡ b
      or_none true = refl
      or_none false = refl

      later : (ks : List Grant) → AllByRecursion (λ k. g.number < k.number) ks → AllByRecursion (λ k. list_any (λ e. test e && e.number == k.number) gs ≡ test k) ks → AllByRecursion (λ k. list_any (λ e. test e && e.number == k.number) (g ∷ gs) ≡ test k) ks
      later [] less is = tt
      later (k ∷ ks) less is =
          let less_here : g.number < k.number = less.0 in
          (ap (λ b. b || list_any (λ e. test e && e.number == k.number) gs) (and_right (test g) (g.number == k.number) (ne_eqb g.number k.number (λ same. absurd (omega (arith, less_here, same))))) ∙ is.0, later ks less.1 is.1)

part-inverted : (part rest : List Grant) (h : Grant) → IsPart part (h ∷ rest) → ((more : List Grant) × (part ≡ h ∷ more) × IsPart more rest) ⊎ IsPart part rest
part-inverted _ _ _ (with_first {xs = xs} of) = inl (xs, refl, of)
part-inverted _ _ _ (without_first of) = inr of

-- a part of what a function makes of some of the grants is what it makes of a part
pub part-filtered : (f : Grant → Grant) (p : Grant → Bool) (gs part : List Grant) → IsPart part (map f (filter p gs)) → (some : List Grant) × IsPart some gs × (part ≡ map f some)
part-filtered f p [] part of = nil part of
  where
    nil : (part : List Grant) → IsPart part [] → (some : List Grant) × IsPart some [] × (part ≡ map f some)
    nil _ nothing = ([], nothing, refl)
part-filtered f p (g ∷ gs) part of =
    let P : List Grant → Type 0 = λ k. IsPart part (map f k) in
    ⊎_elim
    (λ (kept : p g ≡ true).
    ⊎_elim
    (λ (with : (more : List Grant) × (part ≡ f g ∷ more) × IsPart more (map f (filter p gs))).
    let (some, some_of, is) = part-filtered f p gs with.0 with.2 in
    (g ∷ some, with_first some_of, with.1 ∙ ap (λ k. f g ∷ k) is))
    (λ (without : IsPart part (map f (filter p gs))).
    let (some, some_of, is) = part-filtered f p gs part without in
    (some, without_first some_of, is))
    (part-inverted part (map f (filter p gs)) (f g) (subst P (cond-true (p g) (g ∷ filter p gs) (filter p gs) kept) of)))
    (λ (left_out : p g ≡ false).
    let (some, some_of, is) = part-filtered f p gs part (subst P (cond-false (p g) (g ∷ filter p gs) (filter p gs) left_out) of) in
    (some, without_first some_of, is))
    (cases_Bool (p g))
