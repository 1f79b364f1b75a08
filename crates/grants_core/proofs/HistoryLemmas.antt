-- What one more change leaves in force.
use Rattle.std.proofs.Common.{◌≡◌, ℕ, ◌+◌, ◌<◌, ◌≤◌, Bool, true, false, not, ◌||◌, ◌&&◌, cond, ltb, List, [], ◌∷◌, ◌++◌, length, refl, sym, ap, subst, ◌∙◌, append_assoc, add_assoc, add-zero, length-append, arith, map, ⊎_elim}
use Rattle.std.specs.List.{AllByRecursion, All, filter, list_any}
use Rattle.std.proofs.Math.Bool.{or_assoc, or-false}
use Rattle.std.proofs.lemmas.Bool.{lt-ltb, le-ltb, or_from, or_parts, and_left, cond-true, cond-false, cases_Bool}
use Rattle.std.proofs.lemmas.List.{append-nil, map-append}
use Rattle.std.proofs.lemmas.List.Sums.{fold-append}
use Rattle.std.proofs.lemmas.List.Elements.{filter-append, filter_agree, recursion_from_All, All-from_recursion}
use Rattle.base_core.specs.Words.{same_name}
use Rattle.base_core.specs.declared.name.Name.{Name}
use Rattle.base_core.specs.declared.name.User.{User}
use Rattle.base_core.specs.declared.privilege.Atom.{Atom}
use Rattle.base_core.specs.declared.sequence.Sequence.{Sequence}
use Rattle.base_core.specs.declared.value.Moment.{Moment}
use Rattle.grants_core.specs.declared.grant.Grant.{Grant}
use Rattle.grants_core.specs.declared.grant.Ownership.{Ownership}
use Rattle.grants_core.specs.declared.grant.Change.{Change}
use Rattle.grants_core.specs.declared.grant.Change.TheVariants as change
use Rattle.grants_core.specs.Owners.{owns, with_owner, with_granted}
use Rattle.grants_core.specs.Valid.{valid, AreSupported}
use Rattle.grants_core.specs.Content.{Rights, may_grant, names, without, singles, option_off, options_off, after_create, after_grant, after_revoke, after_revoke_option}
use Rattle.grants_core.specs.History.{made_by, made_by_all, grants_of, is_struck_by, owners_with, granted_from, granted, is_granted, is_struck_from, is_struck, is_unoptioned_by, is_unoptioned_from, is_unoptioned, left_after, owners_after, unstruck_after, in_force_after, content_after}
use Rattle.grants_core.proofs.ValidLemmas.{valid-filter_valid, valid-append}
use Rattle.grants_core.proofs.OptionLemmas.{options_kept, All-options_off, options_alike, options_filter, options_twice, valid-options_off}
use Rattle.grants_core.proofs.SinglesLemmas.{length-singles}
use Rattle.grants_core.proofs.OwnersLemmas.{valid-owners, owns-with_owner, alike-with_granted, singles-all, AllByRecursion-append}
use Rattle.grants_core.proofs.GrantLemmas.{All-implied, All-filtered, All-valid, singles-supported}

pub same_content : (os ps : List Ownership) (gs hs : List Grant) (n m : ℕ) → os ≡ ps → gs ≡ hs → n ≡ m → ◌≡◌ {A = Rights} (record { owners = os; in_force = gs; made = n }) (record { owners = ps; in_force = hs; made = m })
same_content os ps gs hs n m e f g = cc

pub made_by_all-more : (cs : List Change) (c : Change) → made_by_all (cs ++ c ∷ []) ≡ made_by_all cs + made_by c
made_by_all-more [] c = omega arith
made_by_all-more (x ∷ xs) c = let rest = made_by_all-more xs c in omega (arith, rest)

not_or : (a b : Bool) → not (a || (b || false)) ≡ (not a && not b)
not_or true b = refl
not_or false true = refl
not_or false false = refl

pub granted_from-append : (n m : ℕ) (cs ds : List Change) → granted_from n m (cs ++ ds) ≡ granted_from n m cs ++ granted_from (n + made_by_all cs) (m + length cs) ds
granted_from-append n m [] ds = let e : n ≡ n + 0 = omega arith in let f : m ≡ m + 0 = omega arith in ap (λ k. granted_from k m ds) e ∙ ap (λ k. granted_from (n + 0) k ds) f
granted_from-append n m (c ∷ cs) ds =
    let here : List Grant = grants_of n m c in
    let next : List Grant = granted_from (n + made_by c) (m + 1) cs in
    let e : (m + 1) + length cs ≡ m + length (c ∷ cs) = omega arith in
    let f : (n + made_by c) + made_by_all cs ≡ n + made_by_all (c ∷ cs) = add_assoc n (made_by c) (made_by_all cs) in
    ap (λ k. here ++ k) (granted_from-append (n + made_by c) (m + 1) cs ds)
    ∙ sym (append_assoc here next (granted_from ((n + made_by c) + made_by_all cs) ((m + 1) + length cs) ds))
    ∙ ap (λ k. (here ++ next) ++ granted_from ((n + made_by c) + made_by_all cs) k ds) e
    ∙ ap (λ k. (here ++ next) ++ granted_from k (m + length (c ∷ cs)) ds) f

is_struck-append : (m : ℕ) (cs ds : List Change) (g : Grant) → is_struck_from m (cs ++ ds) g ≡ (is_struck_from m cs g || is_struck_from (m + length cs) ds g)
is_struck-append m [] ds g = let f : m ≡ m + 0 = omega arith in ap (λ k. is_struck_from k ds g) f
is_struck-append m (c ∷ cs) ds g =
    let e : (m + 1) + length cs ≡ m + length (c ∷ cs) = omega arith in
    ap (λ b. is_struck_by m c g || b) (is_struck-append (m + 1) cs ds g ∙ ap (λ k. is_struck_from (m + 1) cs g || is_struck_from k ds g) e)
    ∙ sym (or_assoc (is_struck_by m c g) (is_struck_from (m + 1) cs g) (is_struck_from (m + length (c ∷ cs)) ds g))

is_unoptioned-append : (m : ℕ) (cs ds : List Change) (g : Grant) → is_unoptioned_from m (cs ++ ds) g ≡ (is_unoptioned_from m cs g || is_unoptioned_from (m + length cs) ds g)
is_unoptioned-append m [] ds g = let f : m ≡ m + 0 = omega arith in ap (λ k. is_unoptioned_from k ds g) f
is_unoptioned-append m (c ∷ cs) ds g =
    let e : (m + 1) + length cs ≡ m + length (c ∷ cs) = omega arith in
    ap (λ b. is_unoptioned_by m c g || b) (is_unoptioned-append (m + 1) cs ds g ∙ ap (λ k. is_unoptioned_from (m + 1) cs g || is_unoptioned_from k ds g) e)
    ∙ sym (or_assoc (is_unoptioned_by m c g) (is_unoptioned_from (m + 1) cs g) (is_unoptioned_from (m + length (c ∷ cs)) ds g))

all_units : (atoms : List Atom) → AllByRecursion (λ _. Unit {0}) atoms
all_units [] = tt
all_units (a ∷ more) = (tt, all_units more)

-- the single grants bear the moment of their change
grants-moment : (n m : ℕ) (c : Change) → AllByRecursion (λ g. g.moment.0 ≡ m) (grants_of n m c)
grants-moment n m (change.Create table owner) = tt
grants-moment n m (change.Grant by atoms whom option) = singles-all (λ g. g.moment.0 ≡ m) (λ _. Unit {0}) n (record { 0 = m }) by atoms whom option (λ g q by_user made. ap (λ (t : Moment). t.0) made) (all_units atoms)
grants-moment n m (change.Revoke by atoms whom) = tt
grants-moment n m (change.RevokeOption by atoms whom) = tt
grants-moment n m (change.Other) = tt

-- none is of a later moment than the changes
granted_from-early : (n m : ℕ) (cs : List Change) → AllByRecursion (λ g. g.moment.0 < m + length cs) (granted_from n m cs)
granted_from-early n m [] = tt
granted_from-early n m (c ∷ cs) =
    let Early : Grant → Type 0 = λ g. g.moment.0 < m + length (c ∷ cs) in
    AllByRecursion-append Early (grants_of n m c) (granted_from (n + made_by c) (m + 1) cs)
    (All-implied (λ g. g.moment.0 ≡ m) Early (grants_of n m c) (λ g e. omega arith) (grants-moment n m c))
    (All-implied (λ g. g.moment.0 < (m + 1) + length cs) Early (granted_from (n + made_by c) (m + 1) cs) (λ g e. omega arith) (granted_from-early (n + made_by c) (m + 1) cs))

-- no change strikes a grant of its own moment or a later one
struck_by-late : (m : ℕ) (c : Change) (g : Grant) → m ≤ g.moment.0 → is_struck_by m c g ≡ false
struck_by-late m (change.Create table owner) g h = refl
struck_by-late m (change.Grant by atoms whom option) g h = refl
struck_by-late m (change.Revoke by atoms whom) g h = and_left _ _ (le-ltb _ _ h)
struck_by-late m (change.RevokeOption by atoms whom) g h = refl
struck_by-late m (change.Other) g h = refl

is_struck-late : (m : ℕ) (cs : List Change) (g : Grant) → m + length cs ≤ g.moment.0 + 1 → is_struck_from m cs g ≡ false
is_struck-late m [] g h = refl
is_struck-late m (c ∷ cs) g h =
    or_from _ _ (let le : m ≤ g.moment.0 = omega arith in struck_by-late m c g le) (let le : (m + 1) + length cs ≤ g.moment.0 + 1 = omega arith in is_struck-late (m + 1) cs g le)

-- nor does one take its option
unoptioned_by-late : (m : ℕ) (c : Change) (g : Grant) → m ≤ g.moment.0 → is_unoptioned_by m c g ≡ false
unoptioned_by-late m (change.Create table owner) g h = refl
unoptioned_by-late m (change.Grant by atoms whom option) g h = refl
unoptioned_by-late m (change.Revoke by atoms whom) g h = refl
unoptioned_by-late m (change.RevokeOption by atoms whom) g h = and_left _ _ (le-ltb _ _ h)
unoptioned_by-late m (change.Other) g h = refl

is_unoptioned-late : (m : ℕ) (cs : List Change) (g : Grant) → m + length cs ≤ g.moment.0 + 1 → is_unoptioned_from m cs g ≡ false
is_unoptioned-late m [] g h = refl
is_unoptioned-late m (c ∷ cs) g h =
    or_from _ _ (let le : m ≤ g.moment.0 = omega arith in unoptioned_by-late m c g le) (let le : (m + 1) + length cs ≤ g.moment.0 + 1 = omega arith in is_unoptioned-late (m + 1) cs g le)

-- no change asks whether a grant has the option
struck_by-option_off : (m : ℕ) (c : Change) (test : Grant → Bool) (g : Grant) → is_struck_by m c (option_off test g) ≡ is_struck_by m c g
unfolding names
struck_by-option_off m (change.Create table owner) test g = refl
struck_by-option_off m (change.Grant by atoms whom option) test g = refl
struck_by-option_off m (change.Revoke by atoms whom) test g = refl
struck_by-option_off m (change.RevokeOption by atoms whom) test g = refl
struck_by-option_off m (change.Other) test g = refl

unoptioned_by-option_off : (m : ℕ) (c : Change) (test : Grant → Bool) (g : Grant) → is_unoptioned_by m c (option_off test g) ≡ is_unoptioned_by m c g
unfolding names
unoptioned_by-option_off m (change.Create table owner) test g = refl
unoptioned_by-option_off m (change.Grant by atoms whom option) test g = refl
unoptioned_by-option_off m (change.Revoke by atoms whom) test g = refl
unoptioned_by-option_off m (change.RevokeOption by atoms whom) test g = refl
unoptioned_by-option_off m (change.Other) test g = refl

-- filters that agree on each item
filter_alike : (p q : Grant → Bool) (xs : List Grant) → AllByRecursion (λ g. p g ≡ q g) xs → filter p xs ≡ filter q xs
filter_alike p q [] h = refl
filter_alike p q (x ∷ xs) h = ap (λ b. cond b (x ∷ filter p xs) (filter p xs)) h.0 ∙ ap (λ k. cond (q x) (x ∷ k) k) (filter_alike p q xs h.1)

filter_all : (p : Grant → Bool) (xs : List Grant) → AllByRecursion (λ g. p g ≡ true) xs → filter p xs ≡ xs
filter_all p [] h = refl
filter_all p (x ∷ xs) h = cond-true (p x) _ _ h.0 ∙ ap (λ k. x ∷ k) (filter_all p xs h.1)

filter_twice : (p q : Grant → Bool) (xs : List Grant) → filter (λ g. p g && q g) xs ≡ filter q (filter p xs)
filter_twice p q [] = refl
filter_twice p q (x ∷ xs) =
    elim (p x) as (λ b. cond (b && q x) (x ∷ filter (λ g. p g && q g) xs) (filter (λ g. p g && q g) xs) ≡ filter q (cond b (x ∷ filter p xs) (filter p xs))) [
      | true ↦ ap (λ k. cond (q x) (x ∷ k) k) (filter_twice p q xs)
      | false ↦ filter_twice p q xs
    ]

-- what is made after one more change
pub granted-more : (cs : List Change) (c : Change) → granted (cs ++ c ∷ []) ≡ granted cs ++ grants_of (made_by_all cs) (1 + length cs) c
granted-more cs c =
    let zero_plus : 0 + made_by_all cs ≡ made_by_all cs = omega arith in
    granted_from-append 0 1 cs (c ∷ [])
    ∙ ap (λ k. granted cs ++ k) (append-nil (grants_of (0 + made_by_all cs) (1 + length cs) c) ∙ ap (λ k. grants_of k (1 + length cs) c) zero_plus)

length-grants_of : (n m : ℕ) (c : Change) → length (grants_of n m c) ≡ made_by c
length-grants_of n m (change.Create table owner) = refl
length-grants_of n m (change.Grant by atoms whom option) = length-singles n (record { 0 = m }) by atoms whom option
length-grants_of n m (change.Revoke by atoms whom) = refl
length-grants_of n m (change.RevokeOption by atoms whom) = refl
length-grants_of n m (change.Other) = refl

length-granted_from : (n m : ℕ) (cs : List Change) → length (granted_from n m cs) ≡ made_by_all cs
length-granted_from n m [] = refl
length-granted_from n m (c ∷ cs) =
    length-append (grants_of n m c) (granted_from (n + made_by c) (m + 1) cs)
    ∙ ap (λ k. k + length (granted_from (n + made_by c) (m + 1) cs)) (length-grants_of n m c)
    ∙ ap (λ k. made_by c + k) (length-granted_from (n + made_by c) (m + 1) cs)

pub length-granted : (cs : List Change) → length (granted cs) ≡ made_by_all cs
length-granted cs = length-granted_from 0 1 cs

-- what is struck
pub is_struck-more : (cs : List Change) (c : Change) (g : Grant) → is_struck (cs ++ c ∷ []) g ≡ (is_struck cs g || is_struck_by (1 + length cs) c g)
is_struck-more cs c g =
    is_struck-append 1 cs (c ∷ []) g ∙ ap (λ b. is_struck cs g || b) (or-false (is_struck_by (1 + length cs) c g))

-- and which options are gone
pub is_unoptioned-more : (cs : List Change) (c : Change) (g : Grant) → is_unoptioned (cs ++ c ∷ []) g ≡ (is_unoptioned cs g || is_unoptioned_by (1 + length cs) c g)
is_unoptioned-more cs c g =
    is_unoptioned-append 1 cs (c ∷ []) g ∙ ap (λ b. is_unoptioned cs g || b) (or-false (is_unoptioned_by (1 + length cs) c g))

-- what is not struck after one more change: what was not, without what it strikes, and what it makes
pub unstruck-more : (cs : List Change) (c : Change) → unstruck_after (cs ++ c ∷ []) ≡ filter (λ g. not (is_struck_by (1 + length cs) c g)) (unstruck_after cs) ++ grants_of (made_by_all cs) (1 + length cs) c
unstruck-more cs c =
    let m : ℕ = 1 + length cs in
    let old : List Grant = granted_from 0 1 cs in
    let new : List Grant = grants_of (made_by_all cs) m c in
    let kept : Grant → Bool = λ g. not (is_struck_from 1 (cs ++ c ∷ []) g) in
    let before : Grant → Bool = λ g. not (is_struck_from 1 cs g) in
    let now : Grant → Bool = λ g. not (is_struck_by m c g) in
    let split : (g : Grant) → kept g ≡ (before g && now g) = λ g.
    ap not (is_struck-append 1 cs (c ∷ []) g) ∙ not_or (is_struck_from 1 cs g) (is_struck_by m c g) in
    let late : AllByRecursion (λ g. kept g ≡ true) new =
    All-implied (λ g. g.moment.0 ≡ m) (λ g. kept g ≡ true) new (λ g e. ap not (is_struck-append 1 cs (c ∷ []) g
    ∙ or_from _ _ (let le : 1 + length cs ≤ g.moment.0 + 1 = omega arith in is_struck-late 1 cs g le) (or_from _ _ (let le : m ≤ g.moment.0 = omega arith in struck_by-late m c g le) refl))) (grants-moment (made_by_all cs) m c) in
    ap (filter kept) (granted-more cs c) ∙ filter-append kept old new
    ∙ ap (λ k. k ++ filter kept new) (filter_agree kept (λ g. before g && now g) split old ∙ filter_twice before now old)
    ∙ ap (λ k. filter now (filter before old) ++ k) (filter_all kept new late)

-- what is left after one more change: what was, without what it strikes and the options that it
-- takes, and what it makes
pub left-more : (cs : List Change) (c : Change) → left_after (cs ++ c ∷ []) ≡ map (option_off (is_unoptioned_by (1 + length cs) c)) (filter (λ g. not (is_struck_by (1 + length cs) c g)) (left_after cs)) ++ grants_of (made_by_all cs) (1 + length cs) c
left-more cs c =
    let m : ℕ = 1 + length cs in
    let old : List Grant = unstruck_after cs in
    let new : List Grant = grants_of (made_by_all cs) m c in
    let all : Grant → Bool = λ g. is_unoptioned_from 1 (cs ++ c ∷ []) g in
    let before : Grant → Bool = λ g. is_unoptioned_from 1 cs g in
    let now : Grant → Bool = λ g. is_unoptioned_by m c g in
    let stays : Grant → Bool = λ g. not (is_struck_by m c g) in
    let split : (g : Grant) → all g ≡ (before g || now g) = λ g.
    is_unoptioned-more cs c g in
    let late : AllByRecursion (λ g. all g ≡ false) new =
    All-implied (λ g. g.moment.0 ≡ m) (λ g. all g ≡ false) new (λ g e. split g
    ∙ or_from _ _ (let le : 1 + length cs ≤ g.moment.0 + 1 = omega arith in is_unoptioned-late 1 cs g le) (let le : m ≤ g.moment.0 = omega arith in unoptioned_by-late m c g le)) (grants-moment (made_by_all cs) m c) in
    ap (map (option_off all)) (unstruck-more cs c) ∙ map-append (option_off all) (filter stays old) new
    ∙ ap (λ k. k ++ map (option_off all) new)
    (options_twice before now all (filter stays old) split (unoptioned_by-option_off m c before)
    ∙ ap (map (option_off now)) (options_filter before stays old (λ g. ap not (struck_by-option_off m c before g))))
    ∙ ap (λ k. map (option_off now) (filter stays (map (option_off before) old)) ++ k) (options_kept all new late)

pub owners-more : (cs : List Change) (c : Change) → owners_after (cs ++ c ∷ []) ≡ owners_with (owners_after cs) c
owners-more cs c = fold-append owners_with [] cs (c ∷ [])

pub unstruck-early : (cs : List Change) → AllByRecursion (λ g. g.moment.0 < 1 + length cs) (unstruck_after cs)
unstruck-early cs = All-filtered (λ g. g.moment.0 < 1 + length cs) (λ g. not (is_struck_from 1 cs g)) (granted_from 0 1 cs) (granted_from-early 0 1 cs)

pub left-early : (cs : List Change) → AllByRecursion (λ g. g.moment.0 < 1 + length cs) (left_after cs)
left-early cs = All-options_off (λ g. g.moment.0 < 1 + length cs) (is_unoptioned cs) (unstruck_after cs) (λ g h. h) (unstruck-early cs)

none_struck : (m : ℕ) (c : Change) (gs : List Grant) → ((g : Grant) → is_struck_by m c g ≡ false) → filter (λ g. not (is_struck_by m c g)) gs ≡ gs
none_struck m c [] h = refl
none_struck m c (g ∷ gs) h = cond-true (not (is_struck_by m c g)) _ _ (ap not (h g)) ∙ ap (λ k. g ∷ k) (none_struck m c gs h)

-- a test that means no grant
pub no_options : (gs : List Grant) → map (option_off (λ g. false)) gs ≡ gs
no_options gs = options_kept (λ g. false) gs (all_false gs)
  where
    all_false : (gs : List Grant) → AllByRecursion (λ g. false ≡ false) gs
    all_false [] = tt
    all_false (g ∷ more) = (refl, all_false more)

-- a change that strikes nothing, takes no option and makes nothing
left-idle : (cs : List Change) (c : Change) → ((gs : List Grant) → map (option_off (is_unoptioned_by (1 + length cs) c)) gs ≡ gs) → ((g : Grant) → is_struck_by (1 + length cs) c g ≡ false) → grants_of (made_by_all cs) (1 + length cs) c ≡ [] → left_after (cs ++ c ∷ []) ≡ left_after cs
left-idle cs c options strikes makes =
    let m : ℕ = 1 + length cs in
    let stays : List Grant = filter (λ g. not (is_struck_by m c g)) (left_after cs) in
    left-more cs c ∙ ap (λ k. map (option_off (is_unoptioned_by m c)) stays ++ k) makes
    ∙ append-nil (map (option_off (is_unoptioned_by m c)) stays) ∙ options stays ∙ none_struck m c (left_after cs) strikes

-- **a revocation leaves in force what is valid without the named**
pub in_force-revoke : (cs : List Change) (by : User) (atoms : Sequence Atom) (whom : Sequence User) → in_force_after (cs ++ change.Revoke by atoms whom ∷ []) ≡ valid (owners_after cs) (without by atoms whom (in_force_after cs))
in_force-revoke cs by atoms whom =
    let m : ℕ = 1 + length cs in
    let o : List Ownership = owners_after cs in
    let c : Change = change.Revoke by atoms whom in
    let late : List Grant = filter (λ g. not (ltb g.moment.0 m && names by atoms whom g)) (left_after cs) in
    let alike : late ≡ without by atoms whom (left_after cs) =
    filter_alike (λ g. not (ltb g.moment.0 m && names by atoms whom g)) (λ g. not (names by atoms whom g)) (left_after cs)
    (All-implied (λ g. g.moment.0 < m) (λ g. not (ltb g.moment.0 m && names by atoms whom g) ≡ not (names by atoms whom g)) (left_after cs)
    (λ g lt. ap (λ b. not (b && names by atoms whom g)) (lt-ltb _ _ lt)) (left-early cs)) in
    ap (λ k. valid k (left_after (cs ++ c ∷ []))) (owners-more cs c)
    ∙ ap (valid o) (left-more cs c ∙ append-nil (map (option_off (λ g. false)) late) ∙ no_options late ∙ alike)
    ∙ sym (valid-filter_valid o (λ g. not (names by atoms whom g)) (left_after cs))

-- **one of the option leaves what is valid once the options of the named are off**
pub in_force-revoke_option : (cs : List Change) (by : User) (atoms : Sequence Atom) (whom : Sequence User) → in_force_after (cs ++ change.RevokeOption by atoms whom ∷ []) ≡ valid (owners_after cs) (options_off by atoms whom (in_force_after cs))
in_force-revoke_option cs by atoms whom =
    let m : ℕ = 1 + length cs in
    let o : List Ownership = owners_after cs in
    let c : Change = change.RevokeOption by atoms whom in
    let test : Grant → Bool = λ g. ltb g.moment.0 m && names by atoms whom g in
    let alike : map (option_off test) (left_after cs) ≡ options_off by atoms whom (left_after cs) =
    options_alike test (names by atoms whom) (left_after cs)
    (All-implied (λ g. g.moment.0 < m) (λ g. test g ≡ names by atoms whom g) (left_after cs)
    (λ g lt. ap (λ b. b && names by atoms whom g) (lt-ltb _ _ lt)) (left-early cs)) in
    ap (λ k. valid k (left_after (cs ++ c ∷ []))) (owners-more cs c)
    ∙ ap (valid o) (left-more cs c ∙ append-nil (map (option_off test) (filter (λ g. not (is_struck_by m c g)) (left_after cs)))
    ∙ ap (map (option_off test)) (none_struck m c (left_after cs) (λ g. refl)) ∙ alike)
    ∙ sym (valid-options_off o (names by atoms whom) (left_after cs))

-- **a grant that its grantor may make adds its single grants**
pub in_force-grant : (cs : List Change) (by : User) (atoms : Sequence Atom) (whom : Sequence User) (option : Bool) → AreSupported (owners_after cs) (in_force_after cs) (singles (made_by_all cs) (record { 0 = 1 + length cs }) by atoms whom option) → in_force_after (cs ++ change.Grant by atoms whom option ∷ []) ≡ in_force_after cs ++ singles (made_by_all cs) (record { 0 = 1 + length cs }) by atoms whom option
in_force-grant cs by atoms whom option supported =
    let m : ℕ = 1 + length cs in
    let o : List Ownership = owners_after cs in
    let c : Change = change.Grant by atoms whom option in
    let gs : List Grant = singles (made_by_all cs) (record { 0 = m }) by atoms whom option in
    ap (λ k. valid k (left_after (cs ++ c ∷ []))) (owners-more cs c)
    ∙ ap (valid (with_granted atoms o)) (left-more cs c ∙ ap (λ k. k ++ gs) (no_options (filter (λ g. not (is_struck_by m c g)) (left_after cs)) ∙ none_struck m c (left_after cs) (λ g. refl)))
    ∙ valid-owners o (with_granted atoms o) (left_after cs ++ gs) (alike-with_granted atoms o (left_after cs ++ gs))
    ∙ valid-append o (left_after cs) gs supported

in_force-alike : (cs : List Change) (table : Name) (owner : User) → AllByRecursion (λ g. owns (with_owner table owner (owners_after cs)) g.grantor g.atom ≡ owns (owners_after cs) g.grantor g.atom) (left_after cs) → in_force_after (cs ++ change.Create table owner ∷ []) ≡ in_force_after cs
in_force-alike cs table owner alike =
    let o : List Ownership = owners_after cs in
    let c : Change = change.Create table owner in
    ap (λ k. valid k (left_after (cs ++ c ∷ []))) (owners-more cs c)
    ∙ ap (valid (with_owner table owner o)) (left-idle cs c (λ gs. no_options gs) (λ g. refl) refl)
    ∙ valid-owners o (with_owner table owner o) (left_after cs) alike

pub none_of : (p : Grant → Bool) (gs : List Grant) → list_any p gs ≡ false → AllByRecursion (λ g. p g ≡ false) gs
none_of p [] h = tt
none_of p (g ∷ gs) h = let parts = or_parts _ _ h in (parts.0, none_of p gs parts.1)

alike_elsewhere : (table : Name) (owner : User) (os : List Ownership) (gs : List Grant) → AllByRecursion (λ g. same_name table g.atom.table ≡ false) gs → AllByRecursion (λ g. owns (with_owner table owner os) g.grantor g.atom ≡ owns os g.grantor g.atom) gs
alike_elsewhere table owner os [] h = tt
alike_elsewhere table owner os (g ∷ gs) h = (owns-with_owner table owner os g.grantor g.atom h.0, alike_elsewhere table owner os gs h.1)

-- **one more change: what there is after it, from what there was before**
pub content-create : (cs : List Change) (table : Name) (owner : User) → is_granted cs table ≡ false → content_after (cs ++ change.Create table owner ∷ []) ≡ after_create (content_after cs) table owner
content-create cs table owner never =
    let c : Change = change.Create table owner in
    let Elsewhere : Grant → Type 0 = λ g. same_name table g.atom.table ≡ false in
    let unstruck : AllByRecursion Elsewhere (unstruck_after cs) = All-filtered Elsewhere (λ g. not (is_struck cs g)) (granted cs) (none_of (λ g. same_name table g.atom.table) (granted cs) never) in
    let none : AllByRecursion Elsewhere (left_after cs) = All-options_off Elsewhere (is_unoptioned cs) (unstruck_after cs) (λ g h. h) unstruck in
    same_content _ _ _ _ _ _ (owners-more cs c) (in_force-alike cs table owner (alike_elsewhere table owner (owners_after cs) (left_after cs) none)) (made_by_all-more cs c ∙ add-zero (made_by_all cs))

pub content-grant : (cs : List Change) (by : User) (atoms : Sequence Atom) (whom : Sequence User) (option : Bool) → All (λ atom. may_grant (owners_after cs) (in_force_after cs) by atom ≡ true) atoms → content_after (cs ++ change.Grant by atoms whom option ∷ []) ≡ after_grant (content_after cs) by atoms whom option (record { 0 = 1 + length cs })
content-grant cs by atoms whom option may =
    let c : Change = change.Grant by atoms whom option in
    let May : Atom → Type 0 = λ atom. may_grant (owners_after cs) (in_force_after cs) by atom ≡ true in
    let later : AllByRecursion (λ g. g.moment.0 < 1 + length cs) (in_force_after cs) = All-valid (λ g. g.moment.0 < 1 + length cs) (owners_after cs) (left_after cs) (left-early cs) in
    same_content _ _ _ _ _ _ (owners-more cs c)
    (in_force-grant cs by atoms whom option (singles-supported (owners_after cs) (in_force_after cs) (made_by_all cs) (record { 0 = 1 + length cs }) by atoms whom option (recursion_from_All May atoms may) later))
    (made_by_all-more cs c)

pub content-revoke : (cs : List Change) (by : User) (atoms : Sequence Atom) (whom : Sequence User) → content_after (cs ++ change.Revoke by atoms whom ∷ []) ≡ after_revoke (content_after cs) by atoms whom
content-revoke cs by atoms whom =
    let c : Change = change.Revoke by atoms whom in
    same_content _ _ _ _ _ _ (owners-more cs c) (in_force-revoke cs by atoms whom) (made_by_all-more cs c ∙ add-zero (made_by_all cs))

pub content-revoke_option : (cs : List Change) (by : User) (atoms : Sequence Atom) (whom : Sequence User) → content_after (cs ++ change.RevokeOption by atoms whom ∷ []) ≡ after_revoke_option (content_after cs) by atoms whom
content-revoke_option cs by atoms whom =
    let c : Change = change.RevokeOption by atoms whom in
    same_content _ _ _ _ _ _ (owners-more cs c) (in_force-revoke_option cs by atoms whom) (made_by_all-more cs c ∙ add-zero (made_by_all cs))

pub content-other : (cs : List Change) → content_after (cs ++ change.Other ∷ []) ≡ content_after cs
content-other cs =
    let left : left_after (cs ++ change.Other ∷ []) ≡ left_after cs = left-idle cs change.Other (λ gs. no_options gs) (λ g. refl) refl in
    same_content _ _ _ _ _ _ (owners-more cs change.Other) (ap (λ k. valid k (left_after (cs ++ change.Other ∷ []))) (owners-more cs change.Other) ∙ ap (valid (owners_after cs)) left)
    (made_by_all-more cs change.Other ∙ add-zero (made_by_all cs))

keep_all : (gs : List Grant) → gs ≡ filter (λ g. true) gs
keep_all gs = sym (filter_all (λ g. true) gs (all_true gs))
  where
    all_true : (gs : List Grant) → AllByRecursion (λ g. true ≡ true) gs
    all_true [] = tt
    all_true (g ∷ more) = (refl, all_true more)

valid_again : (o : List Ownership) (grants : List Grant) → valid o (valid o grants) ≡ valid o grants
valid_again o grants =
    ap (valid o) (keep_all (valid o grants)) ∙ valid-filter_valid o (λ g. true) grants ∙ ap (valid o) (sym (keep_all grants))

-- what a filter keeps passes
filter_passes : (p : Grant → Bool) (xs : List Grant) → AllByRecursion (λ g. p g ≡ true) (filter p xs)
filter_passes p [] = tt
filter_passes p (x ∷ xs) =
    ⊎_elim
    (λ (pass : p x ≡ true).
    let P : List Grant → Type 0 = λ k. AllByRecursion (λ g. p g ≡ true) k in
    subst P (sym (cond-true (p x) (x ∷ filter p xs) (filter p xs) pass)) (pass, filter_passes p xs))
    (λ (fail : p x ≡ false).
    let P : List Grant → Type 0 = λ k. AllByRecursion (λ g. p g ≡ true) k in
    subst P (sym (cond-false (p x) (x ∷ filter p xs) (filter p xs) fail)) (filter_passes p xs))
    (cases_Bool (p x))

not_true : (b : Bool) → not b ≡ true → b ≡ false
not_true true h = cc
not_true false h = refl

-- **a revocation leaves everything as it was exactly where it names no grant in force**
pub revoke-unnamed : (cs : List Change) (by : User) (atoms : List Atom) (whom : List User) → All (λ g. names by atoms whom g ≡ false) (in_force_after cs) → after_revoke (content_after cs) by atoms whom ≡ content_after cs
revoke-unnamed cs by atoms whom none =
    let o : List Ownership = owners_after cs in
    let Unnamed : Grant → Type 0 = λ g. names by atoms whom g ≡ false in
    let all : without by atoms whom (in_force_after cs) ≡ in_force_after cs =
    filter_all (λ g. not (names by atoms whom g)) (in_force_after cs)
    (All-implied Unnamed (λ g. not (names by atoms whom g) ≡ true) (in_force_after cs) (λ g e. ap not e) (recursion_from_All Unnamed (in_force_after cs) none)) in
    same_content _ _ _ _ _ _ refl (ap (valid o) all ∙ valid_again o (left_after cs)) refl

pub revoke-named : (cs : List Change) (by : User) (atoms : List Atom) (whom : List User) → after_revoke (content_after cs) by atoms whom ≡ content_after cs → All (λ g. names by atoms whom g ≡ false) (in_force_after cs)
revoke-named cs by atoms whom same =
    let Unnamed : Grant → Type 0 = λ g. names by atoms whom g ≡ false in
    let Passes : Grant → Type 0 = λ g. not (names by atoms whom g) ≡ true in
    let left : List Grant = without by atoms whom (in_force_after cs) in
    let passes : AllByRecursion Passes (valid (owners_after cs) left) = All-valid Passes (owners_after cs) left (filter_passes (λ g. not (names by atoms whom g)) (in_force_after cs)) in
    let All_pass : List Grant → Type 0 = λ k. AllByRecursion Passes k in
    let is : valid (owners_after cs) left ≡ in_force_after cs = ap (λ (c : Rights). c.in_force) same in
    All-from_recursion Unnamed (in_force_after cs) (All-implied Passes Unnamed (in_force_after cs) (λ g e. not_true _ e) (subst All_pass is passes))

optionless : (o n : Bool) → (o && n) ≡ false → (o && not n) ≡ o
optionless true false h = refl
optionless true true h = cc
optionless false n h = refl

optionless_from : (o n : Bool) → ((o && not n) && n) ≡ false
optionless_from true true = refl
optionless_from true false = refl
optionless_from false n = refl

all_keep : (test : Grant → Bool) (gs : List Grant) → AllByRecursion (λ g. (g.option && test g) ≡ false) gs → map (option_off test) gs ≡ gs
all_keep test [] h = refl
all_keep test (g ∷ gs) h =
    ap (λ b. record g { option = b } ∷ map (option_off test) gs) (optionless g.option (test g) h.0) ∙ ap (λ k. g ∷ k) (all_keep test gs h.1)

none_left : (by : User) (atoms : List Atom) (whom : List User) (gs : List Grant) → AllByRecursion (λ g. (g.option && names by atoms whom g) ≡ false) (options_off by atoms whom gs)
unfolding names
none_left by atoms whom [] = tt
none_left by atoms whom (g ∷ gs) = (optionless_from g.option (names by atoms whom g), none_left by atoms whom gs)

-- **a revocation of the option leaves everything as it was exactly where it names no grant in force
-- with the option**
pub revoke_option-unnamed : (cs : List Change) (by : User) (atoms : List Atom) (whom : List User) → All (λ g. (g.option && names by atoms whom g) ≡ false) (in_force_after cs) → after_revoke_option (content_after cs) by atoms whom ≡ content_after cs
revoke_option-unnamed cs by atoms whom none =
    let o : List Ownership = owners_after cs in
    let Unnamed : Grant → Type 0 = λ g. (g.option && names by atoms whom g) ≡ false in
    let all : options_off by atoms whom (in_force_after cs) ≡ in_force_after cs = all_keep (names by atoms whom) (in_force_after cs) (recursion_from_All Unnamed (in_force_after cs) none) in
    same_content _ _ _ _ _ _ refl (ap (valid o) all ∙ valid_again o (left_after cs)) refl

pub revoke_option-named : (cs : List Change) (by : User) (atoms : List Atom) (whom : List User) → after_revoke_option (content_after cs) by atoms whom ≡ content_after cs → All (λ g. (g.option && names by atoms whom g) ≡ false) (in_force_after cs)
revoke_option-named cs by atoms whom same =
    let Unnamed : Grant → Type 0 = λ g. (g.option && names by atoms whom g) ≡ false in
    let off : List Grant = options_off by atoms whom (in_force_after cs) in
    let All_unnamed : List Grant → Type 0 = λ k. AllByRecursion Unnamed k in
    let is : valid (owners_after cs) off ≡ in_force_after cs = ap (λ (c : Rights). c.in_force) same in
    All-from_recursion Unnamed (in_force_after cs) (subst All_unnamed is (All-valid Unnamed (owners_after cs) off (none_left by atoms whom (in_force_after cs))))
