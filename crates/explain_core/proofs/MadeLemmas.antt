-- The grants that lawful changes make: their order, their tables' owners, and what their grantors may
-- grant.
use Rattle.std.proofs.Common.{◌≡◌, ℕ, ◌+◌, ◌-◌, ◌<◌, ◌≤◌, Bool, true, false, not, ◌||◌, leb, List, [], ◌∷◌, ◌++◌, length, map, take, drop, refl, sym, ap, ◌∙◌, subst, arith, append_assoc}
use Rattle.std.specs.List.{AllByRecursion, All, AllPairs, list_any, filter}
use Rattle.std.proofs.lemmas.Bool.{cond-true, cond-false, le-leb, lt-leb}
use Rattle.std.proofs.lemmas.List.{append-nil, take-append-drop, length-take-le, take_at, length_push}
use Rattle.std.proofs.lemmas.List.Elements.{filter-append, All-from_recursion, recursion_from_All}
use Rattle.std.proofs.lemmas.List.Kept.{AllPairs-cons}
use Rattle.base_core.specs.Words.{same_name}
use Rattle.base_core.specs.declared.name.Name.{Name}
use Rattle.base_core.specs.declared.name.User.{User}
use Rattle.base_core.specs.declared.privilege.Atom.{Atom}
use Rattle.base_core.specs.declared.value.Moment.{Moment}
use Rattle.grants_core.specs.declared.grant.Grant.{Grant}
use Rattle.grants_core.specs.declared.grant.Ownership.{Ownership}
use Rattle.grants_core.specs.declared.grant.Change.{Change}
use Rattle.grants_core.specs.declared.grant.Change.TheVariants as change
use Rattle.grants_core.specs.Owners.{owns}
use Rattle.grants_core.specs.Valid.{valid, supports, is_supported}
use Rattle.grants_core.specs.Content.{option_off}
use Rattle.grants_core.specs.History.{made_by, made_by_all, grants_of, granted_from, granted, is_granted, is_struck, is_unoptioned, owners_with, owners_after, left_after, unstruck_after, in_force_after}
use Rattle.grants_core.specs.Noted.{may_grant_after, AreGrantable}
use Rattle.grants_core.proofs.GrantLemmas.{All-implied, All-filtered, All-valid}
use Rattle.grants_core.proofs.HistoryLemmas.{made_by_all-more, granted_from-append, granted-more, owners-more, none_of, left-early}
use Rattle.grants_core.proofs.OptionLemmas.{All-options_off}
use Rattle.grants_core.proofs.OwnersLemmas.{AllByRecursion-append, owns-with_owner, owns-with_granted, singles-all, valid-owners, supported-from_may}
use Rattle.grants_core.specs.Lawful.{AreCreatedFirst, AreLawful}
use Rattle.explain_core.specs.Reading.{left_at}

All-both : (P Q R : Grant → Type 0) (xs : List Grant) → ((g : Grant) → P g → Q g → R g) → AllByRecursion P xs → AllByRecursion Q xs → AllByRecursion R xs
All-both P Q R [] f h k = tt
All-both P Q R (x ∷ xs) f h k = (f x h.0 k.0, All-both P Q R xs f h.1 k.1)

All-front : (P : Grant → Type 0) (xs ys : List Grant) → AllByRecursion P (xs ++ ys) → AllByRecursion P xs
All-front P [] ys h = tt
All-front P (x ∷ xs) ys h = (h.0, All-front P xs ys h.1)

All-back : (P : Grant → Type 0) (xs ys : List Grant) → AllByRecursion P (xs ++ ys) → AllByRecursion P ys
All-back P [] ys h = h
All-back P (x ∷ xs) ys h = All-back P xs ys h.1

all_units : (atoms : List Atom) → AllByRecursion (λ _. Unit {0}) atoms
all_units [] = tt
all_units (a ∷ more) = (tt, all_units more)

-- the single grants bear the moment of their change
pub moment-grants_of : (n m : ℕ) (c : Change) → AllByRecursion (λ g. g.moment.0 ≡ m) (grants_of n m c)
moment-grants_of n m (change.Create table owner) = tt
moment-grants_of n m (change.Grant by atoms whom option) = singles-all (λ g. g.moment.0 ≡ m) (λ _. Unit {0}) n (record { 0 = m }) by atoms whom option (λ g q by_user made. ap (λ (t : Moment). t.0) made) (all_units atoms)
moment-grants_of n m (change.Revoke by atoms whom) = tt
moment-grants_of n m (change.RevokeOption by atoms whom) = tt
moment-grants_of n m (change.Other) = tt

abbrev pub IsBetween : ℕ → ℕ → Grant → Type 0
IsBetween low high g = (low ≤ g.moment.0) × (g.moment.0 < high)

-- all are of moments of the changes
pub moment-granted_from : (n m : ℕ) (cs : List Change) → AllByRecursion (IsBetween m (m + length cs)) (granted_from n m cs)
moment-granted_from n m [] = tt
moment-granted_from n m (c ∷ cs) =
    let Here : Grant → Type 0 = IsBetween m (m + length (c ∷ cs)) in
    AllByRecursion-append Here (grants_of n m c) (granted_from (n + made_by c) (m + 1) cs)
    (All-implied (λ g. g.moment.0 ≡ m) Here (grants_of n m c) (λ g e. (omega arith, omega arith)) (moment-grants_of n m c))
    (All-implied (IsBetween (m + 1) ((m + 1) + length cs)) Here (granted_from (n + made_by c) (m + 1) cs)
    (λ g h. let low = h.0 in let high = h.1 in (omega arith, omega arith)) (moment-granted_from (n + made_by c) (m + 1) cs))

pub moment-granted : (cs : List Change) → All (λ g. g.moment.0 ≤ length cs) (granted cs)
moment-granted cs =
    let Here : Grant → Type 0 = λ g. g.moment.0 ≤ length cs in
    All-from_recursion Here (granted cs)
    (All-implied (IsBetween 1 (1 + length cs)) Here (granted cs) (λ g h. let high = h.1 in omega arith) (moment-granted_from 0 1 cs))

pub moment-positive : (cs : List Change) → All (λ g. 0 < g.moment.0) (granted cs)
moment-positive cs =
    let Here : Grant → Type 0 = λ g. 0 < g.moment.0 in
    All-from_recursion Here (granted cs)
    (All-implied (IsBetween 1 (1 + length cs)) Here (granted cs) (λ g h. let low = h.0 in omega arith) (moment-granted_from 0 1 cs))

abbrev pub NoLater : Grant → Grant → Type 0
NoLater g h = g.moment.0 ≤ h.moment.0

pairs-append : (m : ℕ) (xs ys : List Grant) → AllByRecursion (λ g. g.moment.0 ≡ m) xs → AllByRecursion (λ g. m ≤ g.moment.0) ys → AllPairs NoLater ys → AllPairs NoLater (xs ++ ys)
pairs-append m [] ys h k p = p
pairs-append m (x ∷ xs) ys h k p =
    let here : x.moment.0 ≡ m = h.0 in
    let After : Grant → Type 0 = NoLater x in
    AllPairs-cons NoLater x (xs ++ ys)
    (All-from_recursion After (xs ++ ys) (AllByRecursion-append After xs ys
    (All-implied (λ g. g.moment.0 ≡ m) After xs (λ g e. omega arith) h.1)
    (All-implied (λ g. m ≤ g.moment.0) After ys (λ g e. omega arith) k)))
    (pairs-append m xs ys h.1 k p)

in_order-from : (n m : ℕ) (cs : List Change) → AllPairs NoLater (granted_from n m cs)
in_order-from n m [] = λ i j d less within. let impossible : j < 0 = within in absurd (omega (arith, impossible))
in_order-from n m (c ∷ cs) =
    pairs-append m (grants_of n m c) (granted_from (n + made_by c) (m + 1) cs) (moment-grants_of n m c)
    (All-implied (IsBetween (m + 1) ((m + 1) + length cs)) (λ g. m ≤ g.moment.0) (granted_from (n + made_by c) (m + 1) cs)
    (λ g h. let low = h.0 in omega arith) (moment-granted_from (n + made_by c) (m + 1) cs))
    (in_order-from (n + made_by c) (m + 1) cs)

-- **grants are made in the order of their moments**
pub in_order-granted : (cs : List Change) → AllPairs NoLater (granted cs)
in_order-granted cs = in_order-from 0 1 cs

pub filter-all : (p : Grant → Bool) (xs : List Grant) → AllByRecursion (λ g. p g ≡ true) xs → filter p xs ≡ xs
filter-all p [] h = refl
filter-all p (x ∷ xs) h = cond-true (p x) _ _ h.0 ∙ ap (λ k. x ∷ k) (filter-all p xs h.1)

pub filter-none : (p : Grant → Bool) (xs : List Grant) → AllByRecursion (λ g. p g ≡ false) xs → filter p xs ≡ []
filter-none p [] h = refl
filter-none p (x ∷ xs) h = cond-false (p x) (x ∷ filter p xs) (filter p xs) h.0 ∙ filter-none p xs h.1

-- those that the first m changes make are those of no later moment
pub granted-until : (changes : List Change) (m : ℕ) → m ≤ length changes → granted (take m changes) ≡ filter (λ g. leb g.moment.0 m) (granted changes)
granted-until changes m h =
    let cs : List Change = take m changes in
    let ds : List Change = drop m changes in
    let count : length cs ≡ m = length-take-le m changes h in
    let rest : List Grant = granted_from (0 + made_by_all cs) (1 + length cs) ds in
    let test : Grant → Bool = λ g. leb g.moment.0 m in
    let parts : granted changes ≡ granted cs ++ rest = ap granted (sym (take-append-drop m changes)) ∙ granted_from-append 0 1 cs ds in
    let early : filter test (granted cs) ≡ granted cs =
    filter-all test (granted cs) (All-implied (IsBetween 1 (1 + length cs)) (λ g. test g ≡ true) (granted cs)
    (λ g k. let high = k.1 in le-leb g.moment.0 m (omega arith)) (moment-granted_from 0 1 cs)) in
    let late : filter test rest ≡ [] =
    filter-none test rest (All-implied (IsBetween (1 + length cs) ((1 + length cs) + length ds)) (λ g. test g ≡ false) rest
    (λ g k. let low = k.0 in lt-leb g.moment.0 m (omega arith)) (moment-granted_from (0 + made_by_all cs) (1 + length cs) ds)) in
    sym (ap (filter test) parts ∙ filter-append test (granted cs) rest ∙ ap (λ k. filter test (granted cs) ++ k) late ∙ append-nil (filter test (granted cs)) ∙ early)

-- one change alters no table's owner, unless it creates the table
owns-step : (os : List Ownership) (c : Change) (g : Grant) → ((table : Name) (owner : User) → c ≡ change.Create table owner → same_name table g.atom.table ≡ false) → owns (owners_with os c) g.grantor g.atom ≡ owns os g.grantor g.atom
owns-step os (change.Create table owner) g h = owns-with_owner table owner os g.grantor g.atom (h table owner refl)
owns-step os (change.Grant by atoms whom option) g h = owns-with_granted atoms os g.grantor g.atom
owns-step os (change.Revoke by atoms whom) g h = refl
owns-step os (change.RevokeOption by atoms whom) g h = refl
owns-step os (change.Other) g h = refl

abbrev OwnsAlike : List Change → List Change → Grant → Type 0
OwnsAlike cs ds g = owns (owners_after ds) g.grantor g.atom ≡ owns (owners_after cs) g.grantor g.atom

All-always : (P : Grant → Type 0) (xs : List Grant) → ((g : Grant) → P g) → AllByRecursion P xs
All-always P [] f = tt
All-always P (x ∷ xs) f = (f x, All-always P xs f)

owns-next : (cs : List Change) (c : Change) → ((table : Name) (owner : User) → c ≡ change.Create table owner → is_granted cs table ≡ false) → AllByRecursion (OwnsAlike cs (cs ++ c ∷ [])) (granted cs)
owns-next cs (change.Create table owner) h =
    All-implied (λ g. same_name table g.atom.table ≡ false) (OwnsAlike cs (cs ++ change.Create table owner ∷ [])) (granted cs)
    (λ g other. ap (λ o. owns o g.grantor g.atom) (owners-more cs (change.Create table owner)) ∙ owns-with_owner table owner (owners_after cs) g.grantor g.atom other)
    (none_of (λ g. same_name table g.atom.table) (granted cs) (h table owner refl))
owns-next cs (change.Grant by atoms whom option) h =
    All-always (OwnsAlike cs (cs ++ change.Grant by atoms whom option ∷ [])) (granted cs)
    (λ g. ap (λ o. owns o g.grantor g.atom) (owners-more cs (change.Grant by atoms whom option)) ∙ owns-with_granted atoms (owners_after cs) g.grantor g.atom)
owns-next cs (change.Revoke by atoms whom) h =
    All-always (OwnsAlike cs (cs ++ change.Revoke by atoms whom ∷ [])) (granted cs) (λ g. ap (λ o. owns o g.grantor g.atom) (owners-more cs (change.Revoke by atoms whom)))
owns-next cs (change.RevokeOption by atoms whom) h =
    All-always (OwnsAlike cs (cs ++ change.RevokeOption by atoms whom ∷ [])) (granted cs) (λ g. ap (λ o. owns o g.grantor g.atom) (owners-more cs (change.RevokeOption by atoms whom)))
owns-next cs (change.Other) h =
    All-always (OwnsAlike cs (cs ++ change.Other ∷ [])) (granted cs) (λ g. ap (λ o. owns o g.grantor g.atom) (owners-more cs change.Other))

-- **who owns the table of a grant that was made stays its owner**
pub owns-later : (cs ds : List Change) → AreCreatedFirst (cs ++ ds) → AllByRecursion (OwnsAlike cs (cs ++ ds)) (granted cs)
owns-later cs [] h = All-always (OwnsAlike cs (cs ++ [])) (granted cs) (λ g. ap (λ k. owns (owners_after k) g.grantor g.atom) (append-nil cs))
owns-later cs (d ∷ ds) h =
    let more : (cs ++ d ∷ []) ++ ds ≡ cs ++ d ∷ ds = append_assoc cs (d ∷ []) ds in
    let new : List Grant = grants_of (made_by_all cs) (1 + length cs) d in
    let ahead : AllByRecursion (OwnsAlike (cs ++ d ∷ []) ((cs ++ d ∷ []) ++ ds)) (granted (cs ++ d ∷ [])) =
    owns-later (cs ++ d ∷ []) ds (λ before after table owner e. h before after table owner (sym more ∙ e)) in
    let All_alike : List Grant → Type 0 = λ k. AllByRecursion (OwnsAlike (cs ++ d ∷ []) ((cs ++ d ∷ []) ++ ds)) k in
    let mine = All-front (OwnsAlike (cs ++ d ∷ []) ((cs ++ d ∷ []) ++ ds)) (granted cs) new (subst All_alike (granted-more cs d) ahead) in
    All-both (OwnsAlike (cs ++ d ∷ []) ((cs ++ d ∷ []) ++ ds)) (OwnsAlike cs (cs ++ d ∷ [])) (OwnsAlike cs (cs ++ d ∷ ds)) (granted cs)
    (λ g far near. ap (λ k. owns (owners_after k) g.grantor g.atom) (sym more) ∙ far ∙ near)
    mine (owns-next cs d (λ table owner e. (h cs ds table owner (ap (λ c. cs ++ c ∷ ds) e)).1))

-- **what is in force after the first m changes, by the owners in the end**
pub in_force-left : (changes : List Change) (m : ℕ) → AreLawful changes → m ≤ length changes → in_force_after (take m changes) ≡ valid (owners_after changes) (left_at changes m (granted changes))
in_force-left changes m lawful h =
    let cs : List Change = take m changes in
    let whole : cs ++ drop m changes ≡ changes = take-append-drop m changes in
    let Created : List Change → Type 0 = λ k. AreCreatedFirst k in
    let alike : AllByRecursion (OwnsAlike cs (cs ++ drop m changes)) (granted cs) = owns-later cs (drop m changes) (subst Created (sym whole) lawful.created) in
    let Alike : Grant → Type 0 = λ g. owns (owners_after cs) g.grantor g.atom ≡ owns (owners_after changes) g.grantor g.atom in
    let made : AllByRecursion Alike (granted cs) =
    All-implied (OwnsAlike cs (cs ++ drop m changes)) Alike (granted cs) (λ g e. sym e ∙ ap (λ k. owns (owners_after k) g.grantor g.atom) whole) alike in
    let left : AllByRecursion Alike (left_after cs) =
    All-options_off Alike (is_unoptioned cs) (unstruck_after cs) (λ g e. e) (All-filtered Alike (λ g. not (is_struck cs g)) (granted cs) made) in
    valid-owners (owners_after changes) (owners_after cs) (left_after cs) left
    ∙ ap (λ k. valid (owners_after changes) (map (option_off (is_unoptioned cs)) (filter (λ g. not (is_struck cs g)) k))) (granted-until changes m h)

-- what held of a grant just before it was made
abbrev pub WasGrantable : List Change → Grant → Type 0
WasGrantable changes g =
    (owns (owners_after (take (g.moment.0 - 1) changes)) g.grantor g.atom ≡ owns (owners_after changes) g.grantor g.atom)
    × (may_grant_after (take (g.moment.0 - 1) changes) g.grantor g.atom ≡ true)

may-grants_of : (cs ds : List Change) (c : Change) → AreGrantable (cs ++ c ∷ ds) → (n m : ℕ) → AllByRecursion (λ g. may_grant_after cs g.grantor g.atom ≡ true) (grants_of n m c)
may-grants_of cs ds (change.Create table owner) h n m = tt
may-grants_of cs ds (change.Grant by atoms whom option) h n m =
    let May : Atom → Type 0 = λ atom. may_grant_after cs by atom ≡ true in
    singles-all (λ g. may_grant_after cs g.grantor g.atom ≡ true) May n (record { 0 = m }) by atoms whom option
    (λ g q by_user made. let By : User → Type 0 = λ u. may_grant_after cs u g.atom ≡ true in subst By (sym by_user) q)
    (recursion_from_All May atoms (h cs ds by atoms whom option refl))
may-grants_of cs ds (change.Revoke by atoms whom) h n m = tt
may-grants_of cs ds (change.RevokeOption by atoms whom) h n m = tt
may-grants_of cs ds (change.Other) h n m = tt

owns-grants_of : (cs : List Change) (c : Change) (n m : ℕ) → AllByRecursion (λ g. owns (owners_after (cs ++ c ∷ [])) g.grantor g.atom ≡ owns (owners_after cs) g.grantor g.atom) (grants_of n m c)
owns-grants_of cs (change.Create table owner) n m = tt
owns-grants_of cs (change.Grant by atoms whom option) n m =
    let c : Change = change.Grant by atoms whom option in
    All-always (λ g. owns (owners_after (cs ++ c ∷ [])) g.grantor g.atom ≡ owns (owners_after cs) g.grantor g.atom) (grants_of n m c)
    (λ g. ap (λ o. owns o g.grantor g.atom) (owners-more cs c) ∙ owns-with_granted atoms (owners_after cs) g.grantor g.atom)
owns-grants_of cs (change.Revoke by atoms whom) n m = tt
owns-grants_of cs (change.RevokeOption by atoms whom) n m = tt
owns-grants_of cs (change.Other) n m = tt

grantable-grants_of : (cs ds : List Change) (c : Change) → AreLawful (cs ++ c ∷ ds) → AllByRecursion (WasGrantable (cs ++ c ∷ ds)) (grants_of (made_by_all cs) (1 + length cs) c)
grantable-grants_of cs ds c lawful =
    let changes : List Change = cs ++ c ∷ ds in
    let new : List Grant = grants_of (made_by_all cs) (1 + length cs) c in
    let more : (cs ++ c ∷ []) ++ ds ≡ changes = append_assoc cs (c ∷ []) ds in
    let Far : Grant → Type 0 = OwnsAlike (cs ++ c ∷ []) ((cs ++ c ∷ []) ++ ds) in
    let All_far : List Grant → Type 0 = λ k. AllByRecursion Far k in
    let far : AllByRecursion Far new =
    All-back Far (granted cs) new (subst All_far (granted-more cs c) (owns-later (cs ++ c ∷ []) ds (λ before after table owner e. lawful.created before after table owner (sym more ∙ e)))) in
    let Owned : Grant → Type 0 = λ g. owns (owners_after cs) g.grantor g.atom ≡ owns (owners_after changes) g.grantor g.atom in
    let owned : AllByRecursion Owned new =
    All-both Far (λ g. owns (owners_after (cs ++ c ∷ [])) g.grantor g.atom ≡ owns (owners_after cs) g.grantor g.atom) Owned new
    (λ g e f. sym f ∙ sym e ∙ ap (λ k. owns (owners_after k) g.grantor g.atom) more) far (owns-grants_of cs c (made_by_all cs) (1 + length cs)) in
    let May : Grant → Type 0 = λ g. may_grant_after cs g.grantor g.atom ≡ true in
    let Both : Grant → Type 0 = λ g. Owned g × May g in
    All-both Both (λ g. g.moment.0 ≡ 1 + length cs) (WasGrantable changes) new
    (λ g both at.
    let P : List Change → Type 0 = λ k. (owns (owners_after k) g.grantor g.atom ≡ owns (owners_after changes) g.grantor g.atom) × (may_grant_after k g.grantor g.atom ≡ true) in
    let before : take (g.moment.0 - 1) changes ≡ cs = take_at cs (c ∷ ds) (g.moment.0 - 1) (omega arith) in
    subst P (sym before) both)
    (All-both Owned May Both new (λ g e f. (e, f)) owned (may-grants_of cs ds c lawful.grantable (made_by_all cs) (1 + length cs)))
    (moment-grants_of (made_by_all cs) (1 + length cs) c)

grantable-from : (cs ds : List Change) → AreLawful (cs ++ ds) → AllByRecursion (WasGrantable (cs ++ ds)) (granted_from (made_by_all cs) (1 + length cs) ds)
grantable-from cs [] lawful = tt
grantable-from cs (d ∷ ds) lawful =
    let more : (cs ++ d ∷ []) ++ ds ≡ cs ++ d ∷ ds = append_assoc cs (d ∷ []) ds in
    let Lawful : List Change → Type 0 = λ k. AreLawful k in
    let count : 1 + length (cs ++ d ∷ []) ≡ (1 + length cs) + 1 = omega (arith, length_push cs d) in
    let rest : List Grant = granted_from (made_by_all cs + made_by d) ((1 + length cs) + 1) ds in
    let same : granted_from (made_by_all (cs ++ d ∷ [])) (1 + length (cs ++ d ∷ [])) ds ≡ rest =
    ap (λ n. granted_from n (1 + length (cs ++ d ∷ [])) ds) (made_by_all-more cs d) ∙ ap (λ n. granted_from (made_by_all cs + made_by d) n ds) count in
    let ahead = grantable-from (cs ++ d ∷ []) ds (subst Lawful (sym more) lawful) in
    let P : List Grant → Type 0 = λ k. AllByRecursion (WasGrantable ((cs ++ d ∷ []) ++ ds)) k in
    let Q : List Change → Type 0 = λ k. AllByRecursion (WasGrantable k) rest in
    AllByRecursion-append (WasGrantable (cs ++ d ∷ ds)) (grants_of (made_by_all cs) (1 + length cs) d) rest
    (grantable-grants_of cs ds d lawful) (subst Q more (subst P same ahead))

-- **each grant was made by who could make it**
pub grantable-granted : (changes : List Change) → AreLawful changes → All (WasGrantable changes) (granted changes)
grantable-granted changes lawful = All-from_recursion (WasGrantable changes) (granted changes) (grantable-from [] changes lawful)

-- and so was supported by what was in force just before
pub supported-before : (changes : List Change) (g : Grant) → 0 < g.moment.0 → g.moment.0 ≤ length changes → WasGrantable changes g → is_supported (owners_after changes) (in_force_after (take (g.moment.0 - 1) changes)) g ≡ true
supported-before changes g positive within h =
    let cs : List Change = take (g.moment.0 - 1) changes in
    let count : length cs ≡ g.moment.0 - 1 = length-take-le (g.moment.0 - 1) changes (omega arith) in
    let Early : Grant → Type 0 = λ e. e.moment.0 < g.moment.0 in
    let early : AllByRecursion Early (in_force_after cs) =
    All-valid Early (owners_after cs) (left_after cs) (All-implied (λ e. e.moment.0 < 1 + length cs) Early (left_after cs) (λ e k. omega arith) (left-early cs)) in
    ap (λ b. b || list_any (λ k. supports k g) (in_force_after cs)) (sym h.0)
    ∙ supported-from_may (owners_after cs) (in_force_after cs) g early h.1
