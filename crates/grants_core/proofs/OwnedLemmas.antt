-- What the entries of the owners' map say of the list of owners.
use Rattle.std.proofs.Common.{◌≡◌, Bool, true, false, ◌||◌, cond, List, [], ◌∷◌, ◌++◌, Some, None, option_map, refl, sym, ap, ◌∙◌, subst, ⊎_elim}
use Rattle.std.specs.List.{AllByRecursion, IsDistinct, list_any}
use Rattle.std.specs.Map.{lookup, set_value, keys_of}
use Rattle.std.proofs.Math.Bool.{or-false, or_assoc}
use Rattle.std.proofs.lemmas.Bool.{cases_Bool, cond-true, cond-false, or_right}
use Rattle.std.proofs.lemmas.Cmp.{nat_list_eq_equiv}
use Rattle.std.proofs.lemmas.List.Folds.{list_any-append}
use Rattle.std.proofs.lemmas.Option.{none-some}
use Rattle.base_core.specs.Words.{same_name}
use Rattle.base_core.specs.declared.name.Name.{Name}
use Rattle.base_core.specs.declared.name.User.{User}
use Rattle.base_core.specs.declared.privilege.Atom.{Atom}
use Rattle.base_core.proofs.SameLemmas.{same_name-true}
use Rattle.grants_core.specs.declared.grant.Ownership.{Ownership}
use Rattle.grants_core.specs.declared.owners.Owned.{Owned}
use Rattle.grants_core.specs.Owners.{owner_of, with_owner, noted, with_granted}
use Rattle.grants_core.specs.Owned.{ownership, ownerships}
use Rattle.grants_core.proofs.OwnersLemmas.{owner_of-cons}

same_name-turned : (a b : Name) → same_name a b ≡ same_name b a
same_name-turned a b = nat_list_eq_equiv.symm a b

pub owner_of_entries : (es : List (Name × Owned)) (table : Name) → owner_of (ownerships es) table ≡ option_map (λ w. w.owner) (lookup (same_name table) es)
owner_of_entries [] table = refl
owner_of_entries (e ∷ es) table =
    owner_of-cons (ownership e) (ownerships es) table
    ∙ ap (λ b. cond b (Some e.1.owner) (owner_of (ownerships es) table)) (same_name-turned e.0 table)
    ∙ ap (cond (same_name table e.0) (Some e.1.owner)) (owner_of_entries es table)
    ∙ elim (same_name table e.0) as (λ b. cond b (Some e.1.owner) (option_map (λ (w : Owned). w.owner) (lookup (same_name table) es)) ≡ option_map (λ (w : Owned). w.owner) (cond b (Some e.1) (lookup (same_name table) es))) [ true ↦ refl | false ↦ refl ]

-- a table that is there
pub with_owner-there : (table : Name) (user : User) (es : List (Name × Owned)) (w : Owned) → lookup (same_name table) es ≡ Some w → ownerships (set_value (same_name table) es (record w { owner = user })) ≡ with_owner table user (ownerships es)
with_owner-there table user [] w there = absurd (none-some w there)
with_owner-there table user (e ∷ es) w there =
    let new : Owned = record w { owner = user } in
    let turned : same_name e.0 table ≡ same_name table e.0 = same_name-turned e.0 table in
    ⊎_elim
    (λ (here : same_name table e.0 ≡ true).
    let is : Some e.1 ≡ Some w = sym (cond-true (same_name table e.0) (Some e.1) (lookup (same_name table) es) here) ∙ there in
    let same : e.1 ≡ w = cc in
    ap ownerships (cond-true (same_name table e.0) ((e.0, new) ∷ es) (e ∷ set_value (same_name table) es new) here)
    ∙ ap (λ (v : Owned). ownership (e.0, record v { owner = user }) ∷ ownerships es) (sym same)
    ∙ sym (cond-true (same_name e.0 table) (record (ownership e) { owner = user } ∷ ownerships es) (ownership e ∷ with_owner table user (ownerships es)) (turned ∙ here)))
    (λ (apart : same_name table e.0 ≡ false).
    let rest : lookup (same_name table) es ≡ Some w = sym (cond-false (same_name table e.0) (Some e.1) (lookup (same_name table) es) apart) ∙ there in
    ap ownerships (cond-false (same_name table e.0) ((e.0, new) ∷ es) (e ∷ set_value (same_name table) es new) apart)
    ∙ ap (λ k. ownership e ∷ k) (with_owner-there table user es w rest)
    ∙ sym (cond-false (same_name e.0 table) (record (ownership e) { owner = user } ∷ ownerships es) (ownership e ∷ with_owner table user (ownerships es)) (turned ∙ apart)))
    (cases_Bool (same_name table e.0))

-- where a look-up finds none, no name is the table's
names_apart : (table : Name) (es : List (Name × Owned)) → lookup (same_name table) es ≡ None → AllByRecursion (λ name. same_name table name ≡ false) (keys_of es)
names_apart table [] none = tt
names_apart table (e ∷ es) none =
    ⊎_elim
    (λ (here : same_name table e.0 ≡ true).
    absurd (none-some e.1 (sym none ∙ cond-true (same_name table e.0) (Some e.1) (lookup (same_name table) es) here)))
    (λ (apart : same_name table e.0 ≡ false).
    (apart, names_apart table es (sym (cond-false (same_name table e.0) (Some e.1) (lookup (same_name table) es) apart) ∙ none)))
    (cases_Bool (same_name table e.0))

with_owner-apart : (table : Name) (user : User) (es : List (Name × Owned)) → AllByRecursion (λ name. same_name table name ≡ false) (keys_of es) → ownerships (es ++ (table, record { owner = user; granted = false }) ∷ []) ≡ with_owner table user (ownerships es)
with_owner-apart table user [] apart = refl
with_owner-apart table user (e ∷ es) apart =
    ap (λ k. ownership e ∷ k) (with_owner-apart table user es apart.1)
    ∙ sym (cond-false (same_name e.0 table) (record (ownership e) { owner = user } ∷ ownerships es) (ownership e ∷ with_owner table user (ownerships es)) (same_name-turned e.0 table ∙ apart.0))

-- a new table
pub with_owner-new : (table : Name) (user : User) (es : List (Name × Owned)) → lookup (same_name table) es ≡ None → ownerships (es ++ (table, record { owner = user; granted = false }) ∷ []) ≡ with_owner table user (ownerships es)
with_owner-new table user es none = with_owner-apart table user es (names_apart table es none)

-- an entry is noted, or not, as its name says
noted_as : (atom : Atom) (e : Name × Owned) (b : Bool) → same_name atom.table e.0 ≡ b → noted (atom ∷ []) (ownership e) ≡ ownership (e.0, record { owner = e.1.owner; granted = e.1.granted || b })
noted_as atom e b is =
    ap (λ c. ownership (e.0, record { owner = e.1.owner; granted = e.1.granted || (c || false) })) is
    ∙ ap (λ c. ownership (e.0, record { owner = e.1.owner; granted = e.1.granted || c })) (or-false b)

none_marked : (atom : Atom) (es : List (Name × Owned)) → AllByRecursion (λ name. same_name atom.table name ≡ false) (keys_of es) → with_granted (atom ∷ []) (ownerships es) ≡ ownerships es
none_marked atom [] apart = refl
none_marked atom (e ∷ es) apart =
    ap (λ o. o ∷ with_granted (atom ∷ []) (ownerships es)) (noted_as atom e false apart.0 ∙ ap (λ b. ownership (e.0, record { owner = e.1.owner; granted = b })) (or-false e.1.granted))
    ∙ ap (λ k. ownership e ∷ k) (none_marked atom es apart.1)

-- a grant of an atom of no table that is there
pub with_granted-none : (atom : Atom) (es : List (Name × Owned)) → lookup (same_name atom.table) es ≡ None → with_granted (atom ∷ []) (ownerships es) ≡ ownerships es
with_granted-none atom es none = none_marked atom es (names_apart atom.table es none)

-- a grant of an atom of a table that is there, once
pub with_granted-there : (atom : Atom) (es : List (Name × Owned)) (w : Owned) → IsDistinct same_name (keys_of es) → lookup (same_name atom.table) es ≡ Some w → ownerships (set_value (same_name atom.table) es (record w { granted = true })) ≡ with_granted (atom ∷ []) (ownerships es)
unfolding IsDistinct
with_granted-there atom [] w distinct there = absurd (none-some w there)
with_granted-there atom (e ∷ es) w distinct there =
    let is_its : Name → Bool = same_name atom.table in
    let new : Owned = record w { granted = true } in
    ⊎_elim
    (λ (here : is_its e.0 ≡ true).
    let is : Some e.1 ≡ Some w = sym (cond-true (is_its e.0) (Some e.1) (lookup is_its es) here) ∙ there in
    let same : e.1 ≡ w = cc in
    let Apart : Name → Type 0 = λ n. AllByRecursion (λ name. same_name n name ≡ false) (keys_of es) in
    let rest : with_granted (atom ∷ []) (ownerships es) ≡ ownerships es = none_marked atom es (subst Apart (sym (same_name-true atom.table e.0 here)) distinct.0) in
    ap ownerships (cond-true (is_its e.0) ((e.0, new) ∷ es) (e ∷ set_value is_its es new) here)
    ∙ ap (λ (v : Owned). ownership (e.0, record v { granted = true }) ∷ ownerships es) (sym same)
    ∙ ap (λ b. ownership (e.0, record { owner = e.1.owner; granted = b }) ∷ ownerships es) (sym (or_right e.1.granted true refl))
    ∙ ap (λ o. o ∷ ownerships es) (sym (noted_as atom e true here))
    ∙ ap (λ k. noted (atom ∷ []) (ownership e) ∷ k) (sym rest))
    (λ (apart : is_its e.0 ≡ false).
    let rest : lookup is_its es ≡ Some w = sym (cond-false (is_its e.0) (Some e.1) (lookup is_its es) apart) ∙ there in
    ap ownerships (cond-false (is_its e.0) ((e.0, new) ∷ es) (e ∷ set_value is_its es new) apart)
    ∙ ap (λ k. ownership e ∷ k) (with_granted-there atom es w distinct.1 rest)
    ∙ ap (λ b. ownership (e.0, record { owner = e.1.owner; granted = b }) ∷ with_granted (atom ∷ []) (ownerships es)) (sym (or-false e.1.granted))
    ∙ ap (λ o. o ∷ with_granted (atom ∷ []) (ownerships es)) (sym (noted_as atom e false apart)))
    (cases_Bool (is_its e.0))

-- a grant of no atom notes nothing
pub with_granted-nil : (os : List Ownership) → with_granted [] os ≡ os
with_granted-nil [] = refl
with_granted-nil (o ∷ os) =
    ap (λ b. record o { granted = b } ∷ with_granted [] os) (or-false o.granted) ∙ ap (λ k. o ∷ k) (with_granted-nil os)

-- a grant of atoms, and of one more
pub with_granted-more : (atoms : List Atom) (atom : Atom) (os : List Ownership) → with_granted (atoms ++ atom ∷ []) os ≡ with_granted (atom ∷ []) (with_granted atoms os)
with_granted-more atoms atom [] = refl
with_granted-more atoms atom (o ∷ os) =
    let is_its : Atom → Bool = λ a. same_name a.table o.table in
    ap (λ b. record o { granted = o.granted || b } ∷ with_granted (atoms ++ atom ∷ []) os) (list_any-append is_its atoms (atom ∷ []))
    ∙ ap (λ b. record o { granted = b } ∷ with_granted (atoms ++ atom ∷ []) os) (sym (or_assoc o.granted (list_any is_its atoms) (list_any is_its (atom ∷ []))))
    ∙ ap (λ k. noted (atom ∷ []) (noted atoms o) ∷ k) (with_granted-more atoms atom os)
