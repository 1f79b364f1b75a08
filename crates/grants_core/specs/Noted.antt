-- On which tables the owners note a grant, after a list of changes.
use Rattle.std.specs.Prelude.{◌≡◌, ◌<◌, Bool, true, false, List, ◌∷◌, ◌++◌, All}
use Rattle.std.specs.List.{list_any, before_first, after_first}
use Rattle.base_core.specs.Words.{same_name}
use Rattle.base_core.specs.declared.name.Name.{Name}
use Rattle.base_core.specs.declared.name.User.{User}
use Rattle.base_core.specs.declared.privilege.Atom.{Atom}
use Rattle.grants_core.specs.declared.grant.Change.{Change}
use Rattle.grants_core.specs.declared.grant.Change.TheVariants as change
use Rattle.grants_core.specs.Owners.{was_granted}
use Rattle.grants_core.specs.Content.{may_grant}
use Rattle.grants_core.specs.History.{made_by, owners_after, in_force_after}

-- whether the owners note a grant on the table
abbrev pub is_noted : List Change → Name → Bool
is_noted changes table = was_granted (owners_after changes) table

-- whether a change creates the table
abbrev pub creates : Name → Change → Bool
creates table (change.Create name owner) = same_name name table
creates table (change.Grant by atoms whom option) = false
creates table (change.Revoke by atoms whom) = false
creates table (change.RevokeOption by atoms whom) = false
creates table change.Other = false

-- whether a change grants an atom of the table, even to nobody
abbrev pub grants_on : Name → Change → Bool
grants_on table (change.Create name owner) = false
grants_on table (change.Grant by atoms whom option) =
    list_any (λ a. same_name a.table table) atoms
grants_on table (change.Revoke by atoms whom) = false
grants_on table (change.RevokeOption by atoms whom) = false
grants_on table change.Other = false

-- whether a change grants on the table after the first that creates it
abbrev pub is_granted_once_created : List Change → Name → Bool
is_granted_once_created changes table =
    list_any (grants_on table) (after_first (creates table) changes)

-- whether one does so before it, or where none creates it
abbrev pub is_granted_uncreated : List Change → Name → Bool
is_granted_uncreated changes table =
    list_any (grants_on table) (before_first (creates table) changes)

-- each change that grants on the table makes single grants: it grants to somebody
abbrev pub AreToSomebody : List Change → Name → Type 0
AreToSomebody changes table = All (λ c. grants_on table c ≡ true → 0 < made_by c) changes

-- whether the user may grant the atom after the changes
abbrev pub may_grant_after : List Change → User → Atom → Bool
may_grant_after changes by atom = may_grant (owners_after changes) (in_force_after changes) by atom

-- each grant is of atoms that its grantor may grant at that point
abbrev pub AreGrantable : List Change → Type 0
AreGrantable changes =
    (before after : List Change)
    (by : User) (atoms : List Atom) (whom : List User) (option : Bool)
    → changes ≡ before ++ change.Grant by atoms whom option ∷ after
    → All (λ atom. may_grant_after before by atom ≡ true) atoms
