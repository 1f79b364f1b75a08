-- What a change of the owners leaves of notes, and of who owns what was granted.
use Rattle.std.proofs.Common.{◌≡◌, ℕ, Bool, true, false, ◌||◌, ◌&&◌, subst, List, [], ◌∷◌, Option, Some, None, sym, ap, ◌∙◌, ⊎_elim}
use Rattle.std.specs.List.{AllByRecursion, list_any}
use Rattle.std.proofs.lemmas.Bool.{and_parts, or_cases, or_left, or_right, and_from, cases_Bool, both_ways, cond-false, false≢true, false_from_ne_true}
use Rattle.base_core.specs.declared.name.Name.{Name}
use Rattle.base_core.specs.declared.name.User.{User}
use Rattle.base_core.specs.declared.privilege.Atom.{Atom}
use Rattle.base_core.specs.declared.value.Moment.{Moment}
use Rattle.base_core.specs.Words.{same_name}
use Rattle.base_core.specs.Users.{same_user}
use Rattle.base_core.specs.Privileges.{same_atom}
use Rattle.base_core.proofs.SameLemmas.{same_name-true, same_name-refl, same_atom-true}
use Rattle.grants_core.specs.Owners.{owner_of, owns, was_granted, with_owner, with_granted}
use Rattle.grants_core.specs.Valid.{supports, AreSupported}
use Rattle.grants_core.specs.Content.{gives, may_grant, singles}
use Rattle.grants_core.proofs.OwnersLemmas.{owner_of-cons, owns-with_owner, was_granted-with_owner, singles-all}
use Rattle.grants_core.specs.declared.grant.Grant.{Grant}
use Rattle.grants_core.specs.declared.grant.Ownership.{Ownership}

-- a grant was made on the table of each
abbrev pub AreNoted : List Ownership → List Grant → Type 0
AreNoted owners grants = AllByRecursion (λ g. was_granted owners g.atom.table ≡ true) grants

-- a note stays
was_granted-with_granted : (atoms : List Atom) (os : List Ownership) (t : Name) → was_granted os t ≡ true → was_granted (with_granted atoms os) t ≡ true
was_granted-with_granted atoms [] t h = h
was_granted-with_granted atoms (o ∷ os) t h =
    ⊎_elim
    (λ (here : (o.granted && same_name o.table t) ≡ true).
    let parts = and_parts o.granted (same_name o.table t) here in
    let meant : Bool = list_any (λ a. same_name a.table o.table) atoms in
    or_left ((o.granted || meant) && same_name o.table t) _ (and_from (o.granted || meant) (same_name o.table t) (or_left o.granted meant parts.0) parts.1))
    (λ (there : was_granted os t ≡ true). or_right _ _ (was_granted-with_granted atoms os t there))
    (or_cases _ _ h)

-- an owned table gets its note
was_granted-owned : (atoms : List Atom) (os : List Ownership) (user : User) (atom : Atom) → owns os user atom ≡ true → list_any (λ a. same_name a.table atom.table) atoms ≡ true → was_granted (with_granted atoms os) atom.table ≡ true
unfolding owns
was_granted-owned atoms [] user atom h meant = absurd (false≢true h)
was_granted-owned atoms (o ∷ os) user atom h meant =
    let own : Option User → Bool = λ (k : Option User). elim k as (λ _. Bool) [ Some p ↦ same_user p user | None ↦ false ] in
    let more : Bool = list_any (λ a. same_name a.table o.table) atoms in
    ⊎_elim
    (λ (here : same_name o.table atom.table ≡ true).
    let P : Name → Type 0 = λ n. list_any (λ a. same_name a.table n) atoms ≡ true in
    let notes : more ≡ true = subst P (sym (same_name-true o.table atom.table here)) meant in
    or_left ((o.granted || more) && same_name o.table atom.table) _ (and_from (o.granted || more) (same_name o.table atom.table) (or_right o.granted more notes) here))
    (λ (there : same_name o.table atom.table ≡ false).
    let rest : owner_of (o ∷ os) atom.table ≡ owner_of os atom.table = owner_of-cons o os atom.table ∙ cond-false _ _ _ there in
    or_right ((o.granted || more) && same_name o.table atom.table) _ (was_granted-owned atoms os user atom (sym (ap own rest) ∙ h) meant))
    (cases_Bool (same_name o.table atom.table))

pub AreSupported-owners : (o p : List Ownership) (all grants : List Grant) → AllByRecursion (λ g. owns p g.grantor g.atom ≡ owns o g.grantor g.atom) grants → AreSupported o all grants → AreSupported p all grants
AreSupported-owners o p all [] h k = tt
AreSupported-owners o p all (g ∷ gs) h k = (ap (λ b. b || list_any (λ e. supports e g) all) h.0 ∙ k.0, AreSupported-owners o p all gs h.1 k.1)

-- a new owner of a table without grants owns none of what was granted
pub alike-with_owner : (table : Name) (owner : User) (os : List Ownership) (grants : List Grant) → was_granted os table ≡ false → AreNoted os grants → AllByRecursion (λ g. owns (with_owner table owner os) g.grantor g.atom ≡ owns os g.grantor g.atom) grants
alike-with_owner table owner os [] fresh h = tt
alike-with_owner table owner os (g ∷ gs) fresh h = (
  owns-with_owner table owner os g.grantor g.atom (false_from_ne_true _ (λ same.
      let P : Name → Type 0 = λ n. was_granted os n ≡ true in
      both_ways _ fresh (subst P (sym (same_name-true table g.atom.table same)) h.0))),
  alike-with_owner table owner os gs fresh h.1,
)

pub AreNoted-with_owner : (table : Name) (owner : User) (os : List Ownership) (grants : List Grant) → AreNoted os grants → AreNoted (with_owner table owner os) grants
AreNoted-with_owner table owner os [] h = tt
AreNoted-with_owner table owner os (g ∷ gs) h = (was_granted-with_owner table owner os g.atom.table ∙ h.0, AreNoted-with_owner table owner os gs h.1)

pub AreNoted-with_granted : (atoms : List Atom) (os : List Ownership) (grants : List Grant) → AreNoted os grants → AreNoted (with_granted atoms os) grants
AreNoted-with_granted atoms os [] h = tt
AreNoted-with_granted atoms os (g ∷ gs) h = (was_granted-with_granted atoms os g.atom.table h.0, AreNoted-with_granted atoms os gs h.1)

-- whoever may pass an atom on has its table noted, once he has granted it
given_marked : (os : List Ownership) (edges : List Grant) (user : User) (atom : Atom) → AreNoted os edges → list_any (λ g. g.option && gives user atom g) edges ≡ true → was_granted os atom.table ≡ true
unfolding gives
given_marked os [] user atom h k = absurd (false≢true k)
given_marked os (e ∷ es) user atom h k =
    ⊎_elim
    (λ (here : (e.option && gives user atom e) ≡ true).
    let parts = and_parts e.option (gives user atom e) here in
    let same = and_parts (same_atom e.atom atom) _ parts.1 in
    let P : Atom → Type 0 = λ a. was_granted os a.table ≡ true in
    subst P (same_atom-true e.atom atom same.0) h.0)
    (λ (there : list_any (λ g. g.option && gives user atom g) es ≡ true). given_marked os es user atom h.1 there)
    (or_cases _ _ k)

atom_marked : (os : List Ownership) (edges : List Grant) (user : User) (atoms : List Atom) (atom : Atom) → AreNoted os edges → list_any (λ a. same_name a.table atom.table) atoms ≡ true → may_grant os edges user atom ≡ true → was_granted (with_granted atoms os) atom.table ≡ true
atom_marked os edges user atoms atom h meant may =
    ⊎_elim (λ (own : owns os user atom ≡ true). was_granted-owned atoms os user atom own meant)
    (λ (given : list_any (λ g. g.option && gives user atom g) edges ≡ true). was_granted-with_granted atoms os atom.table (given_marked os edges user atom h given))
    (or_cases _ _ may)

-- each atom of a list is meant by it
all_meant : (P : Atom → Type 0) (all atoms : List Atom) → ((a : Atom) → list_any (λ b. same_name b.table a.table) atoms ≡ true → list_any (λ b. same_name b.table a.table) all ≡ true) → AllByRecursion P atoms → AllByRecursion (λ a. P a × (list_any (λ b. same_name b.table a.table) all ≡ true)) atoms
all_meant P all [] f h = tt
all_meant P all (a ∷ more) f h =
    ((h.0, f a (or_left _ _ (same_name-refl a.table))), all_meant P all more (λ b k. f b (or_right (same_name a.table b.table) _ k)) h.1)

-- what a grant makes is noted
pub singles-noted : (os : List Ownership) (kept : List Grant) (first : ℕ) (at : Moment) (by : User) (atoms : List Atom) (whom : List User) (option : Bool) → AreNoted os kept → AllByRecursion (λ atom. may_grant os kept by atom ≡ true) atoms → AreNoted (with_granted atoms os) (singles first at by atoms whom option)
singles-noted os kept first at by atoms whom option h may =
    let May : Atom → Type 0 = λ atom. may_grant os kept by atom ≡ true in
    singles-all (λ g. was_granted (with_granted atoms os) g.atom.table ≡ true) (λ a. May a × (list_any (λ b. same_name b.table a.table) atoms ≡ true)) first at by atoms whom option
    (λ g q by_user made. atom_marked os kept by atoms g.atom h q.1 q.0)
    (all_meant May atoms atoms (λ a k. k) may)
