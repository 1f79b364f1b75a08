-- What a change of the owners leaves.
use Rattle.std.proofs.Common.{◌≡◌, ℕ, ◌+◌, ◌<◌, Bool, true, false, ◌||◌, ◌&&◌, cond, subst, List, [], ◌∷◌, ◌++◌, Option, Some, None, length, refl, sym, ap, ◌∙◌, ⊎_elim, ltb}
use Rattle.std.specs.List.{AllByRecursion, list_any, fold, find}
use Rattle.std.specs.Option.{option_map}
use Rattle.std.proofs.lemmas.Bool.{and_parts, or_cases, or_left, or_right, and_from, cases_Bool, lt-ltb, cond-true, cond-false}
use Rattle.base_core.specs.declared.name.Name.{Name}
use Rattle.base_core.specs.declared.name.User.{User}
use Rattle.base_core.specs.declared.privilege.Atom.{Atom}
use Rattle.base_core.specs.declared.value.Moment.{Moment}
use Rattle.base_core.specs.Words.{same_name}
use Rattle.base_core.specs.Users.{same_user}
use Rattle.base_core.specs.Privileges.{same_atom}
use Rattle.grants_core.specs.Owners.{owner_of, owns, was_granted, with_owner, noted, with_granted}
use Rattle.grants_core.specs.Valid.{is_supported, supports, kept_with, valid}
use Rattle.grants_core.specs.Content.{gives, may_grant, to_each, singles}
use Rattle.base_core.proofs.SameLemmas.{same_name-true}
use Rattle.grants_core.specs.declared.grant.Grant.{Grant}
use Rattle.grants_core.specs.declared.grant.Ownership.{Ownership}

pub owner_of-cons : (o : Ownership) (os : List Ownership) (t : Name) → owner_of (o ∷ os) t ≡ cond (same_name o.table t) (Some o.owner) (owner_of os t)
owner_of-cons o os t = elim (same_name o.table t) as (λ b. option_map (λ (p : Ownership). p.owner) (cond b (Some o) (find (λ p. same_name p.table t) os)) ≡ cond b (Some o.owner) (owner_of os t)) [ true ↦ refl | false ↦ refl ]

-- another table keeps its owner
pub owner_of-with_owner : (table : Name) (user : User) (os : List Ownership) (t : Name) → same_name table t ≡ false → owner_of (with_owner table user os) t ≡ owner_of os t
owner_of-with_owner table user [] t other =
    owner_of-cons (record { table = table; owner = user; granted = false }) [] t ∙ cond-false (same_name table t) _ _ other
owner_of-with_owner table user (o ∷ os) t other =
    ⊎_elim
    (λ (here : same_name o.table table ≡ true).
    let P : Name → Type 0 = λ n. same_name n t ≡ false in
    let not_t : same_name o.table t ≡ false = subst P (sym (same_name-true o.table table here)) other in
    ap (λ k. owner_of k t) (cond-true (same_name o.table table) (record o { owner = user } ∷ os) (o ∷ with_owner table user os) here)
    ∙ owner_of-cons (record o { owner = user }) os t ∙ cond-false (same_name o.table t) (Some user) _ not_t
    ∙ sym (owner_of-cons o os t ∙ cond-false (same_name o.table t) (Some o.owner) _ not_t))
    (λ (there : same_name o.table table ≡ false).
    ap (λ k. owner_of k t) (cond-false (same_name o.table table) (record o { owner = user } ∷ os) (o ∷ with_owner table user os) there)
    ∙ owner_of-cons o (with_owner table user os) t
    ∙ ap (cond (same_name o.table t) (Some o.owner)) (owner_of-with_owner table user os t other)
    ∙ sym (owner_of-cons o os t))
    (cases_Bool (same_name o.table table))

pub owns-with_owner : (table : Name) (owner : User) (os : List Ownership) (user : User) (atom : Atom) → same_name table atom.table ≡ false → owns (with_owner table owner os) user atom ≡ owns os user atom
unfolding owns
owns-with_owner table owner os user atom other =
    ap (λ (k : Option User). elim k as (λ _. Bool) [ Some o ↦ same_user o user | None ↦ false ]) (owner_of-with_owner table owner os atom.table other)

-- no table gains or loses its note
pub was_granted-with_owner : (table : Name) (user : User) (os : List Ownership) (t : Name) → was_granted (with_owner table user os) t ≡ was_granted os t
was_granted-with_owner table user [] t = refl
was_granted-with_owner table user (o ∷ os) t =
    elim (same_name o.table table) as (λ b. was_granted (cond b (record o { owner = user } ∷ os) (o ∷ with_owner table user os)) t ≡ was_granted (o ∷ os) t) [
      | true ↦ refl
      | false ↦ ap (λ k. (o.granted && same_name o.table t) || k) (was_granted-with_owner table user os t)
    ]

pub owner_of-noted : (atoms : List Atom) (os : List Ownership) (t : Name) → owner_of (with_granted atoms os) t ≡ owner_of os t
owner_of-noted atoms [] t = refl
owner_of-noted atoms (o ∷ os) t =
    owner_of-cons (noted atoms o) (with_granted atoms os) t ∙ ap (cond (same_name o.table t) (Some o.owner)) (owner_of-noted atoms os t) ∙ sym (owner_of-cons o os t)

pub owns-with_granted : (atoms : List Atom) (os : List Ownership) (user : User) (atom : Atom) → owns (with_granted atoms os) user atom ≡ owns os user atom
unfolding owns
owns-with_granted atoms os user atom =
    ap (λ (k : Option User). elim k as (λ _. Bool) [ Some o ↦ same_user o user | None ↦ false ]) (owner_of-noted atoms os atom.table)

-- the same grants are valid under owners who own alike
valid_alike : (o p : List Ownership) (kept grants : List Grant) → AllByRecursion (λ g. owns p g.grantor g.atom ≡ owns o g.grantor g.atom) grants → fold (kept_with p) kept grants ≡ fold (kept_with o) kept grants
valid_alike o p kept [] h = refl
valid_alike o p kept (g ∷ gs) h =
    ap (λ b. fold (kept_with p) (cond (b || list_any (λ k. supports k g) kept) (kept ++ g ∷ []) kept) gs) h.0 ∙ valid_alike o p (kept_with o kept g) gs h.1

pub valid-owners : (o p : List Ownership) (grants : List Grant) → AllByRecursion (λ g. owns p g.grantor g.atom ≡ owns o g.grantor g.atom) grants → valid p grants ≡ valid o grants
valid-owners o p grants h = valid_alike o p [] grants h

pub alike-with_granted : (atoms : List Atom) (os : List Ownership) (grants : List Grant) → AllByRecursion (λ g. owns (with_granted atoms os) g.grantor g.atom ≡ owns os g.grantor g.atom) grants
alike-with_granted atoms os [] = tt
alike-with_granted atoms os (g ∷ gs) = (owns-with_granted atoms os g.grantor g.atom, alike-with_granted atoms os gs)

pub AllByRecursion-append : {A : Type 0} (P : A → Type 0) (xs ys : List A) → AllByRecursion P xs → AllByRecursion P ys → AllByRecursion P (xs ++ ys)
AllByRecursion-append P [] ys h k = k
AllByRecursion-append P (x ∷ xs) ys h k = (h.0, AllByRecursion-append P xs ys h.1 k)

to_each-all : (P : Grant → Type 0) (n : ℕ) (at : Moment) (by : User) (atom : Atom) (whom : List User) (option : Bool) → ((g : Grant) → g.atom ≡ atom → g.grantor ≡ by → g.moment ≡ at → P g) → AllByRecursion P (to_each n at by atom whom option)
to_each-all P n at by atom [] option f = tt
to_each-all P n at by atom (u ∷ us) option f = (f _ refl refl refl, to_each-all P (n + 1) at by atom us option f)

-- what holds of each grant of one of the atoms, by that user and at that moment, holds of the single grants
pub singles-all : (P : Grant → Type 0) (Q : Atom → Type 0) (n : ℕ) (at : Moment) (by : User) (atoms : List Atom) (whom : List User) (option : Bool) → ((g : Grant) → Q g.atom → g.grantor ≡ by → g.moment ≡ at → P g) → AllByRecursion Q atoms → AllByRecursion P (singles n at by atoms whom option)
singles-all P Q n at by [] whom option f h = tt
singles-all P Q n at by (a ∷ more) whom option f h =
    AllByRecursion-append P (to_each n at by a whom option) (singles (n + length whom) at by more whom option)
    (to_each-all P n at by a whom option (λ g of_atom by_user made. let R : Atom → Type 0 = λ b. Q b in f g (subst R (sym of_atom) h.0) by_user made))
    (singles-all P Q (n + length whom) at by more whom option f h.1)

-- a grant to him with the option supports what he makes later
supports-from_gives : (e g : Grant) → e.moment.0 < g.moment.0 → (e.option && gives g.grantor g.atom e) ≡ true → supports e g ≡ true
unfolding gives supports
supports-from_gives e g later h =
    let of_atom : Bool = same_atom e.atom g.atom in
    let to_him : Bool = same_user e.grantee g.grantor in
    let parts = and_parts e.option (of_atom && to_him) h in
    let same = and_parts of_atom to_him parts.1 in
    and_from (e.option && of_atom && to_him) (ltb e.moment.0 g.moment.0) (and_from (e.option && of_atom) to_him (and_from e.option of_atom parts.0 same.0) same.1) (lt-ltb _ _ later)

list_any_supports : (grants : List Grant) (g : Grant) → AllByRecursion (λ h. h.moment.0 < g.moment.0) grants → list_any (λ h. h.option && gives g.grantor g.atom h) grants ≡ true → list_any (λ h. supports h g) grants ≡ true
list_any_supports [] g later h = h
list_any_supports (e ∷ es) g later h =
    ⊎_elim
    (λ (here : (e.option && gives g.grantor g.atom e) ≡ true). or_left (supports e g) (list_any (λ k. supports k g) es) (supports-from_gives e g later.0 here))
    (λ (there : list_any (λ k. k.option && gives g.grantor g.atom k) es ≡ true). or_right (supports e g) _ (list_any_supports es g later.1 there))
    (or_cases _ _ h)

pub supported-from_may : (o : List Ownership) (grants : List Grant) (g : Grant) → AllByRecursion (λ h. h.moment.0 < g.moment.0) grants → may_grant o grants g.grantor g.atom ≡ true → is_supported o grants g ≡ true
supported-from_may o grants g later h =
    ⊎_elim (λ (own : owns o g.grantor g.atom ≡ true). or_left _ _ own)
    (λ (by : list_any (λ k. k.option && gives g.grantor g.atom k) grants ≡ true). or_right (owns o g.grantor g.atom) _ (list_any_supports grants g later by))
    (or_cases _ _ h)
