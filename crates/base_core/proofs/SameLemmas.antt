-- Values that a test calls the same are equal.
use Rattle.std.proofs.Common.{◌≡◌, true, ap, refl, ◌∙◌}
use Rattle.std.proofs.lemmas.Bool.{and_parts, and_from}
use Rattle.std.proofs.lemmas.Slice.Eq.{bytes_eq-Decides}
use Rattle.base_core.specs.Words.{same_name}
use Rattle.base_core.specs.Users.{same_user}
use Rattle.base_core.specs.declared.name.Name.{Name}
use Rattle.base_core.specs.declared.name.User.{User}
use Rattle.base_core.specs.declared.privilege.Kind.{Kind}
use Rattle.base_core.specs.declared.privilege.Kind.TheVariants.{Select, Insert, Delete, Update}
use Rattle.base_core.specs.declared.privilege.Atom.{Atom}
use Rattle.base_core.specs.Privileges.{same_kind, same_atom}

pub same_name-true : (a b : Name) → same_name a b ≡ true → a ≡ b
same_name-true a b h = (bytes_eq-Decides a b).0 h

pub same_name-refl : (a : Name) → same_name a a ≡ true
same_name-refl a = (bytes_eq-Decides a a).1 refl

pub same_user-true : (a b : User) → same_user a b ≡ true → a ≡ b
same_user-true a b h = ap (λ (n : Name). record { 0 = n }) (same_name-true a.0 b.0 h)

pub same_user-refl : (a : User) → same_user a a ≡ true
same_user-refl a = same_name-refl a.0

pub same_kind-true : (a b : Kind) → same_kind a b ≡ true → a ≡ b
same_kind-true (Select a) (Select b) h = ap Select (same_name-true a b h)
same_kind-true Insert Insert h = refl
same_kind-true Delete Delete h = refl
same_kind-true (Update a) (Update b) h = ap Update (same_name-true a b h)
same_kind-true (Select a) Insert h = cc
same_kind-true (Select a) Delete h = cc
same_kind-true (Select a) (Update b) h = cc
same_kind-true Insert (Select b) h = cc
same_kind-true Insert Delete h = cc
same_kind-true Insert (Update b) h = cc
same_kind-true Delete (Select b) h = cc
same_kind-true Delete Insert h = cc
same_kind-true Delete (Update b) h = cc
same_kind-true (Update a) (Select b) h = cc
same_kind-true (Update a) Insert h = cc
same_kind-true (Update a) Delete h = cc

pub same_kind-refl : (a : Kind) → same_kind a a ≡ true
same_kind-refl (Select a) = same_name-refl a
same_kind-refl Insert = refl
same_kind-refl Delete = refl
same_kind-refl (Update a) = same_name-refl a

pub same_atom-true : (a b : Atom) → same_atom a b ≡ true → a ≡ b
same_atom-true a b h =
    let parts = and_parts (same_name a.table b.table) (same_kind a.kind b.kind) h in
    let tables : a.table ≡ b.table = same_name-true a.table b.table parts.0 in
    let kinds : a.kind ≡ b.kind = same_kind-true a.kind b.kind parts.1 in
    let with_table : Atom = record { table = b.table; kind = a.kind } in
    let one : a ≡ with_table = ap (λ (n : Name). record { table = n; kind = a.kind }) tables in
    let two : with_table ≡ b = ap (λ (k : Kind). record { table = b.table; kind = k }) kinds in
    one ∙ two

pub same_atom-refl : (a : Atom) → same_atom a a ≡ true
same_atom-refl a = and_from _ _ (same_name-refl a.table) (same_kind-refl a.kind)
