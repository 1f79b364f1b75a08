-- What stays valid where options come off.
use Rattle.std.proofs.Common.{◌≡◌, Bool, true, false, not, ◌&&◌, ◌||◌, cond, List, [], ◌∷◌, ◌++◌, map, refl, sym, ap, ◌∙◌, ⊎_elim}
use Rattle.std.specs.List.{AllByRecursion, list_any, fold, filter}
use Rattle.std.proofs.lemmas.Bool.{cond-true, cond-false, or_cases, or_left, or_right, cases_Bool, both_ways, false_from_ne_true}
use Rattle.std.proofs.lemmas.List.{map-append}
use Rattle.grants_core.specs.declared.grant.Grant.{Grant}
use Rattle.grants_core.specs.declared.grant.Ownership.{Ownership}
use Rattle.grants_core.specs.Owners.{owns}
use Rattle.grants_core.specs.Valid.{supports, is_supported, kept_with, valid}
use Rattle.grants_core.specs.Content.{option_off}
use Rattle.grants_core.proofs.ValidLemmas.{SupportsAll, valid-push, valid-at_most}

and_all : (b : Bool) → (b && true) ≡ b
and_all true = refl
and_all false = refl

-- a grant that the test doesn't mean keeps its option
pub option_kept : (test : Grant → Bool) (g : Grant) → test g ≡ false → option_off test g ≡ g
option_kept test g h =
    ap (λ b. record g { option = g.option && not b }) h ∙ ap (λ b. record g { option = b }) (and_all g.option)

pub options_kept : (test : Grant → Bool) (gs : List Grant) → AllByRecursion (λ g. test g ≡ false) gs → map (option_off test) gs ≡ gs
options_kept test [] h = refl
options_kept test (g ∷ gs) h = ap (λ k. k ∷ map (option_off test) gs) (option_kept test g h.0) ∙ ap (λ k. g ∷ k) (options_kept test gs h.1)

-- what holds of each grant holds of each with its option off, where no option matters
pub All-options_off : (P : Grant → Type 0) (test : Grant → Bool) (gs : List Grant) → ((g : Grant) → P g → P (option_off test g)) → AllByRecursion P gs → AllByRecursion P (map (option_off test) gs)
All-options_off P test [] f h = tt
All-options_off P test (g ∷ gs) f h = (f g h.0, All-options_off P test gs f h.1)

-- tests that agree on each grant take the same options
pub options_alike : (p q : Grant → Bool) (gs : List Grant) → AllByRecursion (λ g. p g ≡ q g) gs → map (option_off p) gs ≡ map (option_off q) gs
options_alike p q [] h = refl
options_alike p q (g ∷ gs) h =
    ap (λ b. record g { option = g.option && not b } ∷ map (option_off p) gs) h.0 ∙ ap (λ k. option_off q g ∷ k) (options_alike p q gs h.1)

-- grants are chosen before or after their options come off, where the choice sees no option
pub options_filter : (test p : Grant → Bool) (gs : List Grant) → ((g : Grant) → p (option_off test g) ≡ p g) → map (option_off test) (filter p gs) ≡ filter p (map (option_off test) gs)
options_filter test p [] same = refl
options_filter test p (g ∷ gs) same =
    let rest : List Grant = map (option_off test) (filter p gs) in
    let one : map (option_off test) (cond (p g) (g ∷ filter p gs) (filter p gs)) ≡ cond (p g) (option_off test g ∷ rest) rest =
    elim (p g) as (λ b. map (option_off test) (cond b (g ∷ filter p gs) (filter p gs)) ≡ cond b (option_off test g ∷ rest) rest) [ true ↦ refl | false ↦ refl ] in
    one ∙ ap (λ b. cond b (option_off test g ∷ rest) rest) (sym (same g))
    ∙ ap (λ k. cond (p (option_off test g)) (option_off test g ∷ k) k) (options_filter test p gs same)

off_in_turn : (o a b : Bool) → (o && not (a || b)) ≡ ((o && not a) && not b)
off_in_turn true true b = refl
off_in_turn true false b = refl
off_in_turn false a b = refl

-- options come off in turn
pub options_twice : (p q both : Grant → Bool) (gs : List Grant) → ((g : Grant) → both g ≡ (p g || q g)) → ((g : Grant) → q (option_off p g) ≡ q g) → map (option_off both) gs ≡ map (option_off q) (map (option_off p) gs)
options_twice p q both [] split same = refl
options_twice p q both (g ∷ gs) split same =
    let rest : List Grant = map (option_off both) gs in
    ap (λ b. record g { option = g.option && not b } ∷ rest) (split g)
    ∙ ap (λ b. record g { option = b } ∷ rest) (off_in_turn g.option (p g) (q g))
    ∙ ap (λ b. record g { option = (g.option && not (p g)) && not b } ∷ rest) (sym (same g))
    ∙ ap (λ k. option_off q (option_off p g) ∷ k) (options_twice p q both gs split same)

weaker : (o t a u l : Bool) → ((((o && not t) && a) && u) && l) ≡ true → (((o && a) && u) && l) ≡ true
weaker true true a u l h = cc
weaker true false a u l h = h
weaker false t a u l h = h

supports-option_off : (test : Grant → Bool) (h g : Grant) → supports (option_off test h) g ≡ true → supports h g ≡ true
unfolding supports
supports-option_off test h g e = weaker h.option (test h) _ _ _ e

any-options_off : (test : Grant → Bool) (xs : List Grant) (g : Grant) → list_any (λ k. supports k g) (map (option_off test) xs) ≡ true → list_any (λ k. supports k g) xs ≡ true
any-options_off test [] g h = h
any-options_off test (x ∷ xs) g h =
    ⊎_elim (λ (here : supports (option_off test x) g ≡ true). or_left _ _ (supports-option_off test x g here))
    (λ (there : list_any (λ k. supports k g) (map (option_off test) xs) ≡ true). or_right _ _ (any-options_off test xs g there))
    (or_cases _ _ h)

-- without options they support no more
pub supported-options_off : (o : List Ownership) (test : Grant → Bool) (xs : List Grant) → SupportsAll o xs (map (option_off test) xs)
supported-options_off o test xs g h =
    ⊎_elim (λ (own : owns o g.grantor g.atom ≡ true). or_left _ _ own)
    (λ (by : list_any (λ k. supports k g) (map (option_off test) xs) ≡ true). or_right _ _ (any-options_off test xs g by))
    (or_cases _ _ h)

-- a grant needs the same support without its option
pub support_of-option_off : (o : List Ownership) (test : Grant → Bool) (xs : List Grant) (g : Grant) → is_supported o xs (option_off test g) ≡ is_supported o xs g
unfolding supports
support_of-option_off o test xs g = refl

off_one : (o : List Ownership) (test : Grant → Bool) (kept : List Grant) (g : Grant) → valid o (map (option_off test) (kept_with o kept g)) ≡ kept_with o (valid o (map (option_off test) kept)) (option_off test g)
off_one o test kept g =
    let off : List Grant = map (option_off test) kept in
    let v : List Grant = valid o off in
    ⊎_elim
    (λ (yes : is_supported o kept g ≡ true).
    let kept_is : kept_with o kept g ≡ kept ++ g ∷ [] = cond-true _ _ _ yes in
    ap (λ k. valid o (map (option_off test) k)) kept_is
    ∙ ap (valid o) (map-append (option_off test) kept (g ∷ [])) ∙ valid-push o off (option_off test g))
    (λ (no : is_supported o kept g ≡ false).
    let kept_is : kept_with o kept g ≡ kept = cond-false _ _ _ no in
    let none : is_supported o v (option_off test g) ≡ false =
    support_of-option_off o test v g
    ∙ false_from_ne_true _ (λ some. both_ways _ no (supported-options_off o test kept g (valid-at_most o off g some))) in
    let same : kept_with o v (option_off test g) ≡ v = cond-false _ _ _ none in
    ap (λ k. valid o (map (option_off test) k)) kept_is ∙ sym same)
    (cases_Bool (is_supported o kept g))

off_all : (o : List Ownership) (test : Grant → Bool) (kept grants : List Grant) → valid o (map (option_off test) (fold (kept_with o) kept grants)) ≡ fold (kept_with o) (valid o (map (option_off test) kept)) (map (option_off test) grants)
off_all o test kept [] = refl
off_all o test kept (g ∷ gs) =
    off_all o test (kept_with o kept g) gs ∙ ap (λ k. fold (kept_with o) k (map (option_off test) gs)) (off_one o test kept g)

-- **options may come off the valid grants or off all: the valid ones are then the same**
pub valid-options_off : (o : List Ownership) (test : Grant → Bool) (grants : List Grant) → valid o (map (option_off test) (valid o grants)) ≡ valid o (map (option_off test) grants)
valid-options_off o test grants = off_all o test [] grants
