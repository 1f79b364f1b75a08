-- Who owns a table, and whether a grant on it was ever made.
use Rattle.std.specs.Prelude.{Bool, false, ◌&&◌, ◌||◌, if◌then◌else◌, List, [], ◌∷◌, map, Option, Some, None}
use Rattle.std.specs.List.{list_any, find}
use Rattle.std.specs.Option.{option_map}
use Rattle.base_core.specs.Words.{same_name}
use Rattle.base_core.specs.Users.{same_user}
use Rattle.base_core.specs.declared.name.Name.{Name}
use Rattle.base_core.specs.declared.name.User.{User}
use Rattle.base_core.specs.declared.privilege.Atom.{Atom}
use Rattle.grants_core.specs.declared.grant.Ownership.{Ownership}

-- the owner of a table, if it has one
abbrev pub owner_of : List Ownership → Name → Option User
owner_of owners table = option_map (λ o. o.owner) (find (λ o. same_name o.table table) owners)

-- Griffiths and Wade 1976: a table's creator is authorized on it for every operation, and to grant
-- each. Here he is so for good.
unfoldable pub owns : List Ownership → User → Atom → Bool
owns owners user atom =
    elim (owner_of owners atom.table) [ Some owner ↦ same_user owner user | None ↦ false ]

-- the owners, with this one for the table
abbrev pub with_owner : Name → User → List Ownership → List Ownership
with_owner table user [] = record { table = table; owner = user; granted = false } ∷ []
with_owner table user (o ∷ os) =
    if same_name o.table table then record o { owner = user } ∷ os else o ∷ with_owner table user os

-- whether a grant on the table was ever made
abbrev pub was_granted : List Ownership → Name → Bool
was_granted owners table = list_any (λ o. o.granted && same_name o.table table) owners

-- a table's entry, after a grant of these atoms
abbrev pub noted : List Atom → Ownership → Ownership
noted atoms o = record o { granted = o.granted || list_any (λ a. same_name a.table o.table) atoms }

-- the owners, after a grant of these atoms
abbrev pub with_granted : List Atom → List Ownership → List Ownership
with_granted atoms owners = map (noted atoms) owners
