-- What a revocation of one atom leaves of the grants of it.
use Rattle.std.specs.Prelude.{◌≡◌, true, false, Bool, not, List, [], ◌∷◌, ◌++◌, All, filter, Option, Some, None}
use Rattle.std.specs.List.{list_any}
use Rattle.base_core.specs.Privileges.{same_atom}
use Rattle.base_core.specs.Users.{same_user}
use Rattle.base_core.specs.declared.name.User.{User}
use Rattle.base_core.specs.declared.privilege.Atom.{Atom}
use Rattle.grants_core.specs.declared.grant.Grant.{Grant}
use Rattle.grants_core.specs.declared.grant.Ownership.{Ownership}
use Rattle.grants_core.specs.Owners.{owns}
use Rattle.grants_core.specs.Valid.{valid}
use Rattle.grants_core.specs.Content.{gives, has_made, without}
use Rattle.explain_core.specs.declared.cut.Cut.{Cut}

-- whether a grant is of the atom
abbrev pub is_of_atom : Atom → Grant → Bool
is_of_atom atom g = same_atom g.atom atom

-- whether a grant gives the user the atom once this one has revoked it from these
abbrev pub holds_without : List Ownership → List Grant → Atom → User → User → List User → Bool
holds_without owners grants atom user by whom =
    list_any (gives user atom) (valid owners (without by (atom ∷ []) whom grants))

-- A revocation that its user may say, after which no grant gives the other the atom.
pub record IsLoss (owners : List Ownership) (grants : List Grant) (atom : Atom) (user by : User)
    (whom : List User) : Type 0 where
  pub made : All (λ v. has_made grants by v atom ≡ true) whom
  pub lost : holds_without owners grants atom user by whom ≡ false

-- those of the users that are not this one
abbrev pub others_than : User → List User → List User
others_than user users = filter (λ u. not (same_user u user)) users

-- where one of these is left out, a grant still gives the other the atom
abbrev pub AreNeeded : List Ownership → List Grant → Atom → User → User → List User → Type 0
AreNeeded owners grants atom user by whom =
    All (λ v. holds_without owners grants atom user by (others_than v whom) ≡ true) whom

-- from whomever this user revokes the atom, a grant still gives it to the other
abbrev pub HoldsAgainst : List Ownership → List Grant → Atom → User → User → Type 0
HoldsAgainst owners grants atom user by =
    (whom : List User) → holds_without owners grants atom user by whom ≡ true

-- each grant by the user is to one of these
abbrev pub AreAllOf : User → List Grant → List User → Type 0
AreAllOf by grants whom =
    All (λ g. same_user g.grantor by ≡ true → list_any (λ v. same_user v g.grantee) whom ≡ true)
    grants

-- a revocation by this user from no more than he has to; or none, since none would do
abbrev pub IsLossBy : List Ownership → List Grant → Atom → User → User → Option Cut → Type 0
IsLossBy owners grants atom user by (Some cut) =
    (cut.by ≡ by)
    × IsLoss owners grants atom user by cut.whom.items
    × AreNeeded owners grants atom user by cut.whom.items
IsLossBy owners grants atom user by None =
    (owns owners by atom ≡ false) × HoldsAgainst owners grants atom user by

-- the last of the chain's grantors whose revocation does; or none, and no grant of it is by the
-- owner
abbrev pub IsLossAlong : List Ownership → List Grant → Atom → User → List Grant → Option Cut
    → Type 0
IsLossAlong owners grants atom user chain (Some cut) =
    IsLoss owners grants atom user cut.by cut.whom.items
    × AreNeeded owners grants atom user cut.by cut.whom.items
    × (front : List Grant) × (g : Grant) × (back : List Grant)
    × (chain ≡ front ++ g ∷ back) × (cut.by ≡ g.grantor)
    × All (λ h. HoldsAgainst owners grants atom user h.grantor) back
IsLossAlong owners grants atom user chain None = All (λ g. owns owners g.grantor atom ≡ false) chain
