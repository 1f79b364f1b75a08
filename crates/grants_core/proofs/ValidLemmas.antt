-- Laws of the valid grants.
use Rattle.std.proofs.Common.{◌≡◌, ◌⊎◌, inl, inr, ◌<◌, ◌≤◌, Bool, true, false, ◌||◌, cond, subst, List, [], ◌∷◌, ◌++◌, refl, sym, ap, ◌∙◌, append_assoc, arith, ⊎_elim}
use Rattle.std.specs.List.{AllByRecursion, list_any, fold, filter}
use Rattle.std.proofs.lemmas.Bool.{cond-true, cond-false, and_parts, or_cases, or_left, or_right, or_from, cases_Bool, ltb-true, both_ways, false_from_ne_true}
use Rattle.std.proofs.lemmas.List.Folds.{list_any-append}
use Rattle.std.proofs.lemmas.List.Sums.{fold-append}
use Rattle.std.proofs.lemmas.List.Elements.{filter-append}
use Rattle.std.proofs.lemmas.List.{append-nil}
use Rattle.grants_core.specs.declared.grant.Grant.{Grant}
use Rattle.grants_core.specs.declared.grant.Ownership.{Ownership}
use Rattle.grants_core.specs.Owners.{owns}
use Rattle.grants_core.specs.Valid.{supports, is_supported, kept_with, valid, IsInOrder, AreSupported, IsPart, nothing, with_first, without_first}

-- the last grant is kept where the valid ones before it support it
pub valid-push : (o : List Ownership) (grants : List Grant) (g : Grant) → valid o (grants ++ g ∷ []) ≡ kept_with o (valid o grants) g
valid-push o grants g = fold-append (kept_with o) [] grants (g ∷ [])

-- what the one list supports the other supports too
abbrev pub SupportsAll : List Ownership → List Grant → List Grant → Type 0
SupportsAll o ys xs = (g : Grant) → is_supported o xs g ≡ true → is_supported o ys g ≡ true

-- more grants support no less
pub supported-append : (o : List Ownership) (xs ys : List Grant) → SupportsAll o (xs ++ ys) xs
supported-append o xs ys g h =
    rw (list_any-append (λ k. supports k g) xs ys)
    (⊎_elim (λ (own : owns o g.grantor g.atom ≡ true). or_left _ _ own)
    (λ (by : list_any (λ k. supports k g) xs ≡ true). or_right _ _ (or_left _ _ by))
    (or_cases _ _ h))

pub supported-append_right : (o : List Ownership) (xs ys : List Grant) (g : Grant) → list_any (λ k. supports k g) ys ≡ true → is_supported o (xs ++ ys) g ≡ true
supported-append_right o xs ys g h = rw (list_any-append (λ k. supports k g) xs ys) (or_right _ _ (or_right _ _ h))

pub supported-append_cases : (o : List Ownership) (xs ys : List Grant) (g : Grant) → is_supported o (xs ++ ys) g ≡ true → (is_supported o xs g ≡ true) ⊎ (list_any (λ k. supports k g) ys ≡ true)
supported-append_cases o xs ys g h =
    let one : (owns o g.grantor g.atom || (list_any (λ k. supports k g) xs || list_any (λ k. supports k g) ys)) ≡ true = rw (list_any-append (λ k. supports k g) xs ys) at h in
    ⊎_elim (λ (own : owns o g.grantor g.atom ≡ true). inl (or_left _ _ own))
    (λ (by : (list_any (λ k. supports k g) xs || list_any (λ k. supports k g) ys) ≡ true).
    ⊎_elim (λ (left : list_any (λ k. supports k g) xs ≡ true). inl (or_right _ _ left))
    (λ (right : list_any (λ k. supports k g) ys ≡ true). inr right)
    (or_cases _ _ by))
    (or_cases _ _ one)

pub supported-both : (o : List Ownership) (xs ys zs : List Grant) → SupportsAll o ys xs → SupportsAll o (ys ++ zs) (xs ++ zs)
supported-both o xs ys zs s g h =
    ⊎_elim (λ (left : is_supported o xs g ≡ true). supported-append o ys zs g (s g left))
    (λ (right : list_any (λ k. supports k g) zs ≡ true). supported-append_right o ys zs g right)
    (supported-append_cases o xs zs g h)

-- what is kept of a grant is at most the grant
pub kept_with-at_most : (o : List Ownership) (kept : List Grant) (g : Grant) → SupportsAll o (kept ++ g ∷ []) (kept_with o kept g)
kept_with-at_most o kept g =
    elim (is_supported o kept g) as (λ b. SupportsAll o (kept ++ g ∷ []) (cond b (kept ++ g ∷ []) kept)) [
      | true ↦ λ k h. h
      | false ↦ λ k h. supported-append o kept (g ∷ []) k h
    ]

pub fold-at_most : (o : List Ownership) (kept grants : List Grant) → SupportsAll o (kept ++ grants) (fold (kept_with o) kept grants)
fold-at_most o kept [] = λ k h. rw (append-nil kept) h
fold-at_most o kept (g ∷ gs) = λ k h.
    let more : is_supported o ((kept ++ g ∷ []) ++ gs) k ≡ true =
    supported-both o (kept_with o kept g) (kept ++ g ∷ []) gs (kept_with-at_most o kept g) k (fold-at_most o (kept_with o kept g) gs k h) in
    rw (append_assoc kept (g ∷ []) gs) at more

-- the valid grants of a list support no more than the list
pub valid-at_most : (o : List Ownership) (grants : List Grant) → SupportsAll o grants (valid o grants)
valid-at_most o grants = fold-at_most o [] grants

-- **a grant that has no support in the list may be taken out of it: the valid ones stay**
pub valid-remove_unsupported : (o : List Ownership) (before : List Grant) (g : Grant) (after : List Grant) → is_supported o (before ++ g ∷ after) g ≡ false → valid o (before ++ after) ≡ valid o (before ++ g ∷ after)
valid-remove_unsupported o before g after unsupported =
    let none : is_supported o (valid o before) g ≡ false =
    false_from_ne_true _ (λ some. both_ways _ unsupported (supported-append o before (g ∷ after) g (valid-at_most o before g some))) in
    let same : kept_with o (valid o before) g ≡ valid o before = cond-false _ _ _ none in
    fold-append (kept_with o) [] before after
    ∙ sym (ap (λ k. fold (kept_with o) k after) same)
    ∙ sym (fold-append (kept_with o) [] before (g ∷ after))

-- a grant supports none of the same or an earlier moment
pub supports-later : (h g : Grant) → supports h g ≡ true → h.moment.0 < g.moment.0
unfolding supports
supports-later h g e = ltb-true h.moment.0 g.moment.0 (and_parts _ _ e).1

none_later : (g : Grant) (later : List Grant) → AllByRecursion (λ h. g.moment.0 ≤ h.moment.0) later → list_any (λ h. supports h g) later ≡ false
none_later g [] all = refl
none_later g (h ∷ hs) all =
    or_from _ _ (false_from_ne_true _ (λ e. let lt : h.moment.0 < g.moment.0 = supports-later h g e in let le : g.moment.0 ≤ h.moment.0 = all.0 in omega arith)) (none_later g hs all.1)

support_is_before : (o : List Ownership) (before : List Grant) (g : Grant) (after : List Grant) → IsInOrder (g ∷ after) → is_supported o (before ++ g ∷ after) g ≡ true → is_supported o before g ≡ true
support_is_before o before g after ordered h =
    ⊎_elim (λ (left : is_supported o before g ≡ true). left)
    (λ (right : list_any (λ k. supports k g) (g ∷ after) ≡ true).
    let le : g.moment.0 ≤ g.moment.0 = omega arith in
    absurd (both_ways _ (none_later g (g ∷ after) (le, ordered.0)) right))
    (supported-append_cases o before (g ∷ after) g h)

fold-of_supported : (o : List Ownership) (before grants : List Grant) → IsInOrder grants → AreSupported o (before ++ grants) grants → fold (kept_with o) before grants ≡ before ++ grants
fold-of_supported o before [] ordered supported = sym (append-nil before)
fold-of_supported o before (g ∷ gs) ordered supported =
    let here : is_supported o before g ≡ true = support_is_before o before g gs ordered supported.0 in
    let kept : kept_with o before g ≡ before ++ g ∷ [] = cond-true _ _ _ here in
    let regrouped : (before ++ g ∷ []) ++ gs ≡ before ++ g ∷ gs = append_assoc before (g ∷ []) gs in
    let rest : AreSupported o ((before ++ g ∷ []) ++ gs) gs = rw regrouped supported.1 in
    ap (λ k. fold (kept_with o) k gs) kept ∙ fold-of_supported o (before ++ g ∷ []) gs ordered.1 rest ∙ regrouped

-- **where each grant of a list in order has support there, each is valid**
pub valid-of_supported : (o : List Ownership) (grants : List Grant) → IsInOrder grants → AreSupported o grants grants → valid o grants ≡ grants
valid-of_supported o grants ordered supported = fold-of_supported o [] grants ordered supported

pub list_any-filter : (q p : Grant → Bool) (xs : List Grant) → list_any q (filter p xs) ≡ true → list_any q xs ≡ true
list_any-filter q p [] = λ h. h
list_any-filter q p (x ∷ xs) =
    elim (p x) as (λ b. list_any q (cond b (x ∷ filter p xs) (filter p xs)) ≡ true → (q x || list_any q xs) ≡ true) [
      | true ↦ λ h. ⊎_elim (λ (here : q x ≡ true). or_left _ _ here) (λ (there : list_any q (filter p xs) ≡ true). or_right _ _ (list_any-filter q p xs there)) (or_cases _ _ h)
      | false ↦ λ h. or_right _ _ (list_any-filter q p xs h)
    ]

pub supported-filter : (o : List Ownership) (p : Grant → Bool) (xs : List Grant) → SupportsAll o xs (filter p xs)
supported-filter o p xs g h =
    ⊎_elim (λ (own : owns o g.grantor g.atom ≡ true). or_left _ _ own)
    (λ (by : list_any (λ k. supports k g) (filter p xs) ≡ true). or_right _ _ (list_any-filter _ p xs by))
    (or_cases _ _ h)

replay_one : (o : List Ownership) (p : Grant → Bool) (kept : List Grant) (g : Grant) → valid o (filter p (kept_with o kept g)) ≡ cond (p g) (kept_with o (valid o (filter p kept)) g) (valid o (filter p kept))
replay_one o p kept g =
    let v : List Grant = valid o (filter p kept) in
    ⊎_elim
    (λ (yes : is_supported o kept g ≡ true).
    let kept_is : kept_with o kept g ≡ kept ++ g ∷ [] = cond-true _ _ _ yes in
    let split : filter p (kept ++ g ∷ []) ≡ filter p kept ++ filter p (g ∷ []) = filter-append p kept (g ∷ []) in
    let last : valid o (filter p kept ++ filter p (g ∷ [])) ≡ cond (p g) (kept_with o v g) v =
    elim (p g) as (λ b. valid o (filter p kept ++ cond b (g ∷ []) []) ≡ cond b (kept_with o v g) v) [
      | true ↦ valid-push o (filter p kept) g
      | false ↦ ap (valid o) (append-nil (filter p kept))
    ] in
    ap (λ k. valid o (filter p k)) kept_is ∙ ap (valid o) split ∙ last)
    (λ (no : is_supported o kept g ≡ false).
    let kept_is : kept_with o kept g ≡ kept = cond-false _ _ _ no in
    let none : is_supported o v g ≡ false =
    false_from_ne_true _ (λ some. both_ways _ no (supported-filter o p kept g (valid-at_most o (filter p kept) g some))) in
    let same : kept_with o v g ≡ v = cond-false _ _ _ none in
    let last : v ≡ cond (p g) (kept_with o v g) v =
    elim (p g) as (λ b. v ≡ cond b (kept_with o v g) v) [ true ↦ sym same | false ↦ refl ] in
    ap (λ k. valid o (filter p k)) kept_is ∙ last)
    (cases_Bool (is_supported o kept g))

replay : (o : List Ownership) (p : Grant → Bool) (kept grants : List Grant) → valid o (filter p (fold (kept_with o) kept grants)) ≡ fold (kept_with o) (valid o (filter p kept)) (filter p grants)
replay o p kept [] = refl
replay o p kept (g ∷ gs) =
    let v : List Grant = valid o (filter p kept) in
    let last : fold (kept_with o) (cond (p g) (kept_with o v g) v) (filter p gs) ≡ fold (kept_with o) v (filter p (g ∷ gs)) =
    elim (p g) as (λ b. fold (kept_with o) (cond b (kept_with o v g) v) (filter p gs) ≡ fold (kept_with o) v (cond b (g ∷ filter p gs) (filter p gs))) [ true ↦ refl | false ↦ refl ] in
    replay o p (kept_with o kept g) gs ∙ ap (λ k. fold (kept_with o) k (filter p gs)) (replay_one o p kept g) ∙ last

-- **grants may be taken from the valid ones or from all: the valid of the rest are the same**
pub valid-filter_valid : (o : List Ownership) (p : Grant → Bool) (grants : List Grant) → valid o (filter p (valid o grants)) ≡ valid o (filter p grants)
valid-filter_valid o p grants = replay o p [] grants

-- what is found in a part of a list is found in the list
pub list_any-part : (q : Grant → Bool) (xs ys : List Grant) → IsPart xs ys → list_any q xs ≡ true → list_any q ys ≡ true
list_any-part q _ _ nothing h = h
list_any-part q _ _ (with_first {g = g} {xs = xs} {ys = ys} rest) h =
    ⊎_elim (λ (here : q g ≡ true). or_left _ _ here) (λ (there : list_any q xs ≡ true). or_right _ _ (list_any-part q xs ys rest there)) (or_cases _ _ h)
list_any-part q xs _ (without_first {g = g} {ys = ys} rest) h = or_right (q g) _ (list_any-part q xs ys rest h)

supported-part : (o : List Ownership) (xs ys : List Grant) → IsPart xs ys → SupportsAll o ys xs
supported-part o xs ys part g h =
    ⊎_elim (λ (own : owns o g.grantor g.atom ≡ true). or_left _ _ own)
    (λ (by : list_any (λ k. supports k g) xs ≡ true). or_right _ _ (list_any-part (λ k. supports k g) xs ys part by))
    (or_cases _ _ h)

pub part-both : (xs ys : List Grant) (g : Grant) → IsPart xs ys → IsPart (xs ++ g ∷ []) (ys ++ g ∷ [])
part-both _ _ g nothing = with_first nothing
part-both _ _ g (with_first {xs = xs} {ys = ys} rest) = with_first (part-both xs ys g rest)
part-both xs _ g (without_first {ys = ys} rest) = without_first (part-both xs ys g rest)

part-more : (xs ys : List Grant) (g : Grant) → IsPart xs ys → IsPart xs (ys ++ g ∷ [])
part-more _ _ g nothing = without_first nothing
part-more _ _ g (with_first {xs = xs} {ys = ys} rest) = with_first (part-more xs ys g rest)
part-more xs _ g (without_first {ys = ys} rest) = without_first (part-more xs ys g rest)

pub part-kept_more : (o : List Ownership) (xs ys : List Grant) (g : Grant) → IsPart xs ys → IsPart xs (kept_with o ys g)
part-kept_more o xs ys g part =
    elim (is_supported o ys g) as (λ b. IsPart xs (cond b (ys ++ g ∷ []) ys)) [ true ↦ part-more xs ys g part | false ↦ part ]

part-kept : (o : List Ownership) (xs ys : List Grant) (g : Grant) → IsPart xs ys → IsPart (kept_with o xs g) (kept_with o ys g)
part-kept o xs ys g part =
    ⊎_elim
    (λ (some : is_supported o xs g ≡ true).
    let P : List Grant → Type 0 = λ k. IsPart k (kept_with o ys g) in
    let Q : List Grant → Type 0 = λ k. IsPart (xs ++ g ∷ []) k in
    let kept : kept_with o ys g ≡ ys ++ g ∷ [] = cond-true _ _ _ (supported-part o xs ys part g some) in
    let same : kept_with o xs g ≡ xs ++ g ∷ [] = cond-true _ _ _ some in
    subst P (sym same) (subst Q (sym kept) (part-both xs ys g part)))
    (λ (none : is_supported o xs g ≡ false).
    let P : List Grant → Type 0 = λ k. IsPart k (kept_with o ys g) in
    let same : kept_with o xs g ≡ xs = cond-false _ _ _ none in
    subst P (sym same) (part-kept_more o xs ys g part))
    (cases_Bool (is_supported o xs g))

part-fold : (o : List Ownership) (xs ys : List Grant) (part grants : List Grant) → IsPart part grants → IsPart xs ys → IsPart (fold (kept_with o) xs part) (fold (kept_with o) ys grants)
part-fold o xs ys _ _ nothing h = h
part-fold o xs ys _ _ (with_first {g = g} {xs = part} {ys = grants} rest) h =
    part-fold o (kept_with o xs g) (kept_with o ys g) part grants rest (part-kept o xs ys g h)
part-fold o xs ys part _ (without_first {g = g} {ys = grants} rest) h =
    part-fold o xs (kept_with o ys g) part grants rest (part-kept_more o xs ys g h)

-- **what is valid in a part of a list is valid in the list**
pub valid-of_part : (o : List Ownership) (part grants : List Grant) → IsPart part grants → IsPart (valid o part) (valid o grants)
valid-of_part o part grants h = part-fold o [] [] part grants h nothing

pub AreSupported-more : (o : List Ownership) (xs ys gs : List Grant) → SupportsAll o ys xs → AreSupported o xs gs → AreSupported o ys gs
AreSupported-more o xs ys [] s h = tt
AreSupported-more o xs ys (g ∷ gs) s h = (s g h.0, AreSupported-more o xs ys gs s h.1)

pub AreSupported-append : (o : List Ownership) (all xs ys : List Grant) → AreSupported o all xs → AreSupported o all ys → AreSupported o all (xs ++ ys)
AreSupported-append o all [] ys h k = k
AreSupported-append o all (x ∷ xs) ys h k = (h.0, AreSupported-append o all xs ys h.1 k)

fold-supported : (o : List Ownership) (kept grants : List Grant) → AreSupported o kept kept → AreSupported o (fold (kept_with o) kept grants) (fold (kept_with o) kept grants)
fold-supported o kept [] h = h
fold-supported o kept (g ∷ gs) h =
    let one : AreSupported o (kept_with o kept g) (kept_with o kept g) =
    ⊎_elim
    (λ (yes : is_supported o kept g ≡ true).
    let kept_is : kept_with o kept g ≡ kept ++ g ∷ [] = cond-true _ _ _ yes in
    let more = supported-append o kept (g ∷ []) in
    let both : AreSupported o (kept ++ g ∷ []) (kept ++ g ∷ []) =
    AreSupported-append o (kept ++ g ∷ []) kept (g ∷ []) (AreSupported-more o kept (kept ++ g ∷ []) kept more h) (more g yes, tt) in
    let P : List Grant → Type 0 = λ k. AreSupported o k k in
    subst P (sym kept_is) both)
    (λ (no : is_supported o kept g ≡ false).
    let P : List Grant → Type 0 = λ k. AreSupported o k k in
    subst P (sym (cond-false _ (kept ++ g ∷ []) kept no)) h)
    (cases_Bool (is_supported o kept g)) in
    fold-supported o (kept_with o kept g) gs one

-- **each valid grant has valid support of an earlier moment, or the owner as its grantor**
pub valid-supported : (o : List Ownership) (grants : List Grant) → AreSupported o (valid o grants) (valid o grants)
valid-supported o grants = fold-supported o [] grants tt

-- grants that the kept ones support are all kept
pub fold-all_supported : (o : List Ownership) (kept grants : List Grant) → AreSupported o kept grants → fold (kept_with o) kept grants ≡ kept ++ grants
fold-all_supported o kept [] h = sym (append-nil kept)
fold-all_supported o kept (g ∷ gs) h =
    let kept_is : kept_with o kept g ≡ kept ++ g ∷ [] = cond-true _ _ _ h.0 in
    ap (λ k. fold (kept_with o) k gs) kept_is
    ∙ fold-all_supported o (kept ++ g ∷ []) gs (AreSupported-more o kept (kept ++ g ∷ []) gs (supported-append o kept (g ∷ [])) h.1)
    ∙ append_assoc kept (g ∷ []) gs

-- **grants that the valid ones support follow them**
pub valid-append : (o : List Ownership) (grants more : List Grant) → AreSupported o (valid o grants) more → valid o (grants ++ more) ≡ valid o grants ++ more
valid-append o grants more h = fold-append (kept_with o) [] grants more ∙ fold-all_supported o (valid o grants) more h

fold-part : (o : List Ownership) (kept before grants : List Grant) → IsPart kept before → IsPart (fold (kept_with o) kept grants) (before ++ grants)
fold-part o kept before [] h = rw (append-nil before) h
fold-part o kept before (g ∷ gs) h =
    let one : IsPart (kept_with o kept g) (before ++ g ∷ []) =
    elim (is_supported o kept g) as (λ b. IsPart (cond b (kept ++ g ∷ []) kept) (before ++ g ∷ [])) [ true ↦ part-both kept before g h | false ↦ part-more kept before g h ] in
    let more : IsPart (fold (kept_with o) (kept_with o kept g) gs) ((before ++ g ∷ []) ++ gs) = fold-part o (kept_with o kept g) (before ++ g ∷ []) gs one in
    rw (append_assoc before (g ∷ []) gs) at more

-- **the valid grants of a list are a part of it**
pub valid-part : (o : List Ownership) (grants : List Grant) → IsPart (valid o grants) grants
valid-part o grants = fold-part o [] [] grants nothing
