-- What the grants of a group are, and which single grants its statement makes.
use Rattle.std.proofs.Common.{◌≡◌, ℕ, ◌+◌, ◌≤◌, Bool, true, false, ◌&&◌, leb, List, [], ◌∷◌, ◌++◌, map, length, refl, sym, ap, ◌∙◌, subst, arith}
use Rattle.std.specs.Bool.{beq}
use Rattle.std.specs.List.{AllByRecursion, flat_map, list_all}
use Rattle.std.specs.Cmp.Lexicographic.{pointwise}
use Rattle.std.proofs.lemmas.Bool.{and_parts, leb-true}
use Rattle.std.proofs.lemmas.List.{map-append, length-map}
use Rattle.std.proofs.lemmas.List.Concat.{flat_map-append}
use Rattle.std.proofs.lemmas.List.Folds.{list_all-map}
use Rattle.std.proofs.lemmas.Slice.Eq.{slice_eq-Decides}
use Rattle.base_core.specs.Distinct.{are_distinct}
use Rattle.base_core.specs.Words.{same_name}
use Rattle.base_core.specs.Users.{same_user}
use Rattle.base_core.specs.Privileges.{of_table, same_kind}
use Rattle.base_core.specs.declared.name.Name.{Name}
use Rattle.base_core.specs.declared.name.User.{User}
use Rattle.base_core.specs.declared.value.Moment.{Moment}
use Rattle.base_core.specs.declared.privilege.Kind.{Kind}
use Rattle.base_core.specs.declared.privilege.Atom.{Atom}
use Rattle.base_core.proofs.SameLemmas.{same_name-true, same_user-true, same_user-refl, same_kind-true}
use Rattle.reader_core.specs.Forming.{AreUsers, IsWellFormed}
use Rattle.reader_core.specs.declared.statement.Statement.TheVariants as statements
use Rattle.grants_core.specs.declared.grant.Grant.{Grant}
use Rattle.grants_core.specs.Content.{to_each, singles}
use Rattle.grants_core.proofs.GrantLemmas.{All-implied}
use Rattle.system_core.specs.declared.machine.event.Entry.{Entry}
use Rattle.system_core.specs.World.{entry}
use Rattle.dump_core.specs.Grouped.{Group, members, grouped}
use Rattle.dump_core.specs.Dump.{are_few_names, are_made_alike, grantees, are_of_one_atom, privileges_of_kinds, may_be_listed, privileges_given, are_of_one_statement, grants_together, granting}
use Rattle.dump_core.specs.Alike.{undated, plain_grants}
use Rattle.dump_core.proofs.Grouping.{each-true, grouped-members, grouped-few, grouped-pass, each-members, mapped, grouped-mapped}
use Rattle.dump_core.proofs.Listing.{listed-formed, one-listed}

beq-true : (a b : Bool) → beq a b ≡ true → a ≡ b
beq-true true true h = refl
beq-true false false h = refl
beq-true true false h = cc
beq-true false true h = cc

-- ---- grants of one atom
-- a grant by this user, of this atom, with this option
pub record IsMade (by : User) (atom : Atom) (option : Bool) (g : Grant) : Type 0 where
  pub by_him : g.grantor ≡ by
  pub of_it : g.atom ≡ atom
  pub with_it : g.option ≡ option

made_alike : (g h : Grant) → are_made_alike g h ≡ true → (g.grantor ≡ h.grantor) × (g.atom.table ≡ h.atom.table) × (g.option ≡ h.option)
made_alike g h e =
    let two = and_parts (same_user g.grantor h.grantor && same_name g.atom.table h.atom.table) (beq g.option h.option) e in
    let one = and_parts (same_user g.grantor h.grantor) (same_name g.atom.table h.atom.table) two.0 in
    (same_user-true _ _ one.0, same_name-true _ _ one.1, beq-true _ _ two.1)

same_atoms : (a b : Atom) → a.table ≡ b.table → a.kind ≡ b.kind → a ≡ b
same_atoms a b tables kinds =
    let one : a ≡ of_table b.table a.kind = ap (λ (n : Name). of_table n a.kind) tables in
    let two : of_table b.table a.kind ≡ b = ap (λ (k : Kind). of_table b.table k) kinds in
    one ∙ two

-- each grant is made as the first
abbrev pub AreOfOneAtom : Group Grant → Type 0
AreOfOneAtom grants = AllByRecursion (IsMade grants.first.grantor grants.first.atom grants.first.option) (members grants)

one_atom : (grants : Group Grant) → are_of_one_atom grants ≡ true → AreOfOneAtom grants
one_atom grants h =
    let f : Grant = grants.first in
    let test : Grant → Bool = λ g. are_made_alike f g && same_kind f.atom.kind g.atom.kind in
    let parts = and_parts (list_all test grants.others) (are_few_names 16 (map (λ u. u.0) (grantees grants))) h in
    let Made : Grant → Type 0 = IsMade f.grantor f.atom f.option in (
      record { by_him = refl; of_it = refl; with_it = refl },
      each-true test Made
          (λ g e.
          let both = and_parts (are_made_alike f g) (same_kind f.atom.kind g.atom.kind) e in
          let alike = made_alike f g both.0 in
          record { by_him = sym alike.0; of_it = sym (same_atoms f.atom g.atom alike.1 (same_kind-true f.atom.kind g.atom.kind both.1)); with_it = sym alike.2 })
          grants.others parts.0,
    )

pub users-formed : (grants : Group Grant) → are_of_one_atom grants ≡ true → AreUsers (grantees grants)
users-formed grants h =
    let names : List Name = map (λ u. u.0) (grantees grants) in
    let few = (and_parts _ (are_few_names 16 names) h).1 in
    let parts = and_parts (leb (length names) 16) (are_distinct names) few in
    let long : length names ≡ length (grantees grants) = length-map (grantees grants) (λ u. u.0) in
    ((omega arith, omega (arith, long, leb-true (length names) 16 parts.0)), parts.1)

-- ---- grants of one statement
-- grants of one atom on this table, made so and to these users
pub record IsPartOf (by : User) (table : Name) (users : List User) (option : Bool) (grants : Group Grant) : Type 0 where
  pub made : AllByRecursion (IsMade by grants.first.atom option) (members grants)
  pub on_it : grants.first.atom.table ≡ table
  pub to_them : grantees grants ≡ users

-- each atom's are part of one statement, which is well formed
pub record AreOfOneStatement (atoms : Group (Group Grant)) : Type 0 where
  pub parts : AllByRecursion (IsPartOf atoms.first.first.grantor atoms.first.first.atom.table (grantees atoms.first) atoms.first.first.option) (members atoms)
  pub formed : IsWellFormed (granting atoms).statement

part : (f : Grant) (users : List User) (grants : Group Grant) → are_made_alike f grants.first ≡ true → pointwise same_user users (grantees grants) ≡ true → AreOfOneAtom grants → IsPartOf f.grantor f.atom.table users f.option grants
part f users grants e same h =
    let alike = made_alike f grants.first e in
    record {
      made = All-implied (IsMade grants.first.grantor grants.first.atom grants.first.option) (IsMade f.grantor grants.first.atom f.option) (members grants)
          (λ g m. record { by_him = m.by_him ∙ sym alike.0; of_it = m.of_it; with_it = m.with_it ∙ sym alike.2 }) h;
      on_it = sym alike.1;
      to_them = sym ((slice_eq-Decides (λ a b. (same_user-true a b, λ e. ap (same_user a) (sym e) ∙ same_user-refl a)) users (grantees grants) (pointwise same_user users (grantees grants)) refl).0 same);
    }

one_statement : (atoms : Group (Group Grant)) → are_of_one_statement atoms ≡ true → AllByRecursion (λ grants. are_of_one_atom grants ≡ true) (members atoms) → AreOfOneStatement atoms
one_statement atoms h each =
    let f : Grant = atoms.first.first in
    let users : List User = grantees atoms.first in
    let test : Group Grant → Bool = λ grants. are_made_alike f grants.first && pointwise same_user users (grantees grants) in
    let both = and_parts (list_all test atoms.others) (may_be_listed (privileges_given atoms)) h in
    record {
      parts = (
        record { made = one_atom atoms.first each.0; on_it = refl; to_them = refl },
        others f users test (λ grants e. and_parts _ _ e) atoms.others both.0 each.1,
      );
      formed = (listed-formed f.atom.kind (map (λ grants. grants.first.atom.kind) atoms.others) both.1, users-formed atoms.first each.0);
    }
  where
    others : (f : Grant) (users : List User) (test : Group Grant → Bool)
        → ((grants : Group Grant) → test grants ≡ true → (are_made_alike f grants.first ≡ true) × (pointwise same_user users (grantees grants) ≡ true))
        → (more : List (Group Grant)) → list_all test more ≡ true → AllByRecursion (λ grants. are_of_one_atom grants ≡ true) more → AllByRecursion (IsPartOf f.grantor f.atom.table users f.option) more
    others f users test says [] h each = tt
    others f users test says (grants ∷ more) h each =
        let both = and_parts (test grants) (list_all test more) h in
        let said = says grants both.0 in
        (part f users grants said.0 said.1 (one_atom grants each.0), others f users test says more both.1 each.1)

-- ---- all grants together
-- the grants of a group, in order
abbrev pub grants_of_group : Group (Group Grant) → List Grant
grants_of_group atoms = flat_map members (members atoms)

flat-twice : (groups : List (Group (Group Grant))) → flat_map grants_of_group groups ≡ flat_map members (flat_map members groups)
flat-twice [] = refl
flat-twice (g ∷ groups) = ap (λ k. grants_of_group g ++ k) (flat-twice groups) ∙ sym (flat_map-append members (members g) (flat_map members groups))

-- **the grants of the groups are the grants, in order**
pub together-same : (gs : List Grant) → flat_map grants_of_group (grants_together gs) ≡ gs
together-same gs = flat-twice (grants_together gs) ∙ ap (flat_map members) (grouped-members are_of_one_statement (grouped are_of_one_atom gs)) ∙ grouped-members are_of_one_atom gs

-- **no more groups than grants**
pub together-few : (gs : List Grant) → length (grants_together gs) ≤ length gs
together-few gs =
    let one = grouped-few are_of_one_atom gs in
    let two = grouped-few are_of_one_statement (grouped are_of_one_atom gs) in
    omega (arith, one, two)

-- **each group is what one well-formed statement makes**
pub together-each : (gs : List Grant) → AllByRecursion AreOfOneStatement (grants_together gs)
together-each gs =
    let atoms : List (Group Grant) = grouped are_of_one_atom gs in
    let One : Group Grant → Type 0 = λ grants. are_of_one_atom grants ≡ true in
    each (grants_together gs) (grouped-pass are_of_one_statement (λ grants. one-listed grants.first.atom.kind) atoms)
    (each-members One (grants_together gs) (subst (AllByRecursion One) (sym (grouped-members are_of_one_statement atoms)) (grouped-pass are_of_one_atom (λ g. refl) gs)))
  where
    each : (groups : List (Group (Group Grant))) → AllByRecursion (λ g. are_of_one_statement g ≡ true) groups → AllByRecursion (λ g. AllByRecursion (λ grants. are_of_one_atom grants ≡ true) (members g)) groups → AllByRecursion AreOfOneStatement groups
    each [] h k = tt
    each (g ∷ groups) h k = (one_statement g h.0 k.0, each groups h.1 k.1)

-- ---- without numbers and moments the grants are in the same groups
grantees-plain : (gs : List Grant) → map (λ (g : Grant). g.grantee) (plain_grants gs) ≡ map (λ g. g.grantee) gs
grantees-plain [] = refl
grantees-plain (g ∷ gs) = ap (λ k. g.grantee ∷ k) (grantees-plain gs)

abbrev plain_one : Group Grant → Group Grant
plain_one = mapped undated

one_atom-plain : (grants : Group Grant) → are_of_one_atom (plain_one grants) ≡ are_of_one_atom grants
one_atom-plain grants =
    let test : Grant → Bool = λ g. are_made_alike grants.first g && same_kind grants.first.atom.kind g.atom.kind in
    ap (λ b. b && are_few_names 16 (map (λ u. u.0) (grantees (plain_one grants)))) (list_all-map test undated grants.others)
    ∙ ap (λ (users : List User). list_all test grants.others && are_few_names 16 (map (λ u. u.0) users)) (grantees-plain (members grants))

all-agree : {A : Type 0} (p q : A → Bool) → ((x : A) → p x ≡ q x) → (xs : List A) → list_all p xs ≡ list_all q xs
all-agree p q same [] = refl
all-agree p q same (x ∷ xs) = ap (λ b. b && list_all p xs) (same x) ∙ ap (λ b. q x && b) (all-agree p q same xs)

kinds-plain : (more : List (Group Grant)) → map (λ (grants : Group Grant). grants.first.atom.kind) (map plain_one more) ≡ map (λ grants. grants.first.atom.kind) more
kinds-plain [] = refl
kinds-plain (grants ∷ more) = ap (λ k. grants.first.atom.kind ∷ k) (kinds-plain more)

one_statement-plain : (atoms : Group (Group Grant)) → are_of_one_statement (mapped plain_one atoms) ≡ are_of_one_statement atoms
one_statement-plain atoms =
    let f : Grant = atoms.first.first in
    let test : List User → Group Grant → Bool = λ users grants. are_made_alike f grants.first && pointwise same_user users (grantees grants) in
    let listed : List Kind → Bool = λ ks. may_be_listed (privileges_of_kinds ks) in
    ap (λ b. b && may_be_listed (privileges_given (mapped plain_one atoms))) (
    list_all-map (test (grantees (plain_one atoms.first))) plain_one atoms.others
    ∙ all-agree (λ grants. test (grantees (plain_one atoms.first)) (plain_one grants)) (test (grantees atoms.first))
    (λ grants. ap (λ users. are_made_alike f grants.first && pointwise same_user users (grantees (plain_one grants))) (grantees-plain (members atoms.first))
    ∙ ap (λ users. are_made_alike f grants.first && pointwise same_user (grantees atoms.first) users) (grantees-plain (members grants)))
    atoms.others
    )
    ∙ ap (λ ks. list_all (test (grantees atoms.first)) atoms.others && listed (f.atom.kind ∷ ks)) (kinds-plain atoms.others)

granting-plain : (atoms : Group (Group Grant)) → granting (mapped plain_one atoms) ≡ granting atoms
granting-plain atoms =
    let f : Grant = atoms.first.first in
    let said : List Kind → List User → Entry = λ ks users. entry 0 f.grantor (statements.Grant (privileges_of_kinds (f.atom.kind ∷ ks)) f.atom.table users f.option) in
    ap (λ ks. said ks (grantees (plain_one atoms.first))) (kinds-plain atoms.others)
    ∙ ap (said (map (λ grants. grants.first.atom.kind) atoms.others)) (grantees-plain (members atoms.first))

-- **they are said by the same statements**
pub together-plain : (gs : List Grant) → map granting (grants_together (plain_grants gs)) ≡ map granting (grants_together gs)
together-plain gs =
    ap (λ k. map granting (grouped are_of_one_statement k)) (grouped-mapped undated are_of_one_atom are_of_one_atom one_atom-plain gs)
    ∙ ap (map granting) (grouped-mapped plain_one are_of_one_statement are_of_one_statement one_statement-plain (grouped are_of_one_atom gs))
    ∙ said (grants_together gs)
  where
    said : (groups : List (Group (Group Grant))) → map granting (map (mapped plain_one) groups) ≡ map granting groups
    said [] = refl
    said (g ∷ groups) = ap (λ e. e ∷ map granting (map (mapped plain_one) groups)) (granting-plain g) ∙ ap (λ k. granting g ∷ k) (said groups)

-- ---- the single grants of a statement
each-made : (n : ℕ) (at : Moment) (by : User) (atom : Atom) (option : Bool) (gs : List Grant) → AllByRecursion (IsMade by atom option) gs → plain_grants (to_each n at by atom (map (λ g. g.grantee) gs) option) ≡ plain_grants gs
each-made n at by atom option [] h = refl
each-made n at by atom option (g ∷ gs) h =
    let plain : User → Atom → Bool → Grant = λ u a o. record { number = 0; moment = record { 0 = 0 }; atom = a; grantor = u; grantee = g.grantee; option = o } in
    let same : plain by atom option ≡ undated g = ap (λ u. plain u atom option) (sym h.0.by_him) ∙ ap (λ a. plain g.grantor a option) (sym h.0.of_it) ∙ ap (plain g.grantor g.atom) (sym h.0.with_it) in
    ap (λ k. k ∷ plain_grants (to_each (n + 1) at by atom (map (λ g. g.grantee) gs) option)) same
    ∙ ap (λ k. undated g ∷ k) (each-made (n + 1) at by atom option gs h.1)

-- **they are the grants of its parts, in order**
pub parts-made : (n : ℕ) (at : Moment) (by : User) (table : Name) (users : List User) (option : Bool) (parts : List (Group Grant)) → AllByRecursion (IsPartOf by table users option) parts
    → plain_grants (singles n at by (map (of_table table) (map (λ grants. grants.first.atom.kind) parts)) users option) ≡ plain_grants (flat_map members parts)
parts-made n at by table users option [] h = refl
parts-made n at by table users option (grants ∷ parts) h =
    let kind : Kind = grants.first.atom.kind in
    let atoms : List Atom = map (of_table table) (map (λ grants. grants.first.atom.kind) parts) in
    let here : plain_grants (to_each n at by (of_table table kind) users option) ≡ plain_grants (members grants) =
    ap (λ t. plain_grants (to_each n at by (of_table t kind) users option)) (sym h.0.on_it)
    ∙ ap (λ us. plain_grants (to_each n at by grants.first.atom us option)) (sym h.0.to_them)
    ∙ each-made n at by grants.first.atom option (members grants) h.0.made in
    map-append undated (to_each n at by (of_table table kind) users option) (singles (n + length users) at by atoms users option)
    ∙ ap (λ k. k ++ plain_grants (singles (n + length users) at by atoms users option)) here
    ∙ ap (λ k. plain_grants (members grants) ++ k) (parts-made (n + length users) at by table users option parts h.1)
    ∙ sym (map-append undated (members grants) (flat_map members parts))
