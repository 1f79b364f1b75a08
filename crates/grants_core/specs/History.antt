-- What a list of changes leaves in force. The m-th change of a list, from 1 on, is that of moment
-- m.
use Rattle.std.specs.Prelude.{ℕ, ◌+◌, ◌*◌, Bool, false, not, ◌&&◌, ◌||◌, nat_lt, List, [], ◌∷◌, ◌++◌, length, map, filter, fold}
use Rattle.std.specs.List.{list_any}
use Rattle.base_core.specs.Words.{same_name}
use Rattle.base_core.specs.declared.name.Name.{Name}
use Rattle.grants_core.specs.declared.grant.Grant.{Grant}
use Rattle.grants_core.specs.declared.grant.Ownership.{Ownership}
use Rattle.grants_core.specs.declared.grant.Change.{Change}
use Rattle.grants_core.specs.declared.grant.Change.TheVariants as change
use Rattle.grants_core.specs.Owners.{with_owner, with_granted}
use Rattle.grants_core.specs.Valid.{valid}
use Rattle.grants_core.specs.Content.{Rights, singles, names, option_off}

-- how many single grants a change makes
abbrev pub made_by : Change → ℕ
made_by (change.Create table owner) = 0
made_by (change.Grant by atoms whom option) = length atoms * length whom
made_by (change.Revoke by atoms whom) = 0
made_by (change.RevokeOption by atoms whom) = 0
made_by change.Other = 0

-- how many single grants the changes make
abbrev pub made_by_all : List Change → ℕ
made_by_all [] = 0
made_by_all (c ∷ cs) = made_by c + made_by_all cs

-- which a change of moment m makes, numbered from n
abbrev pub grants_of : ℕ → ℕ → Change → List Grant
grants_of n m (change.Create table owner) = []
grants_of n m (change.Grant by atoms whom option) =
    singles n (record { 0 = m }) by atoms whom option
grants_of n m (change.Revoke by atoms whom) = []
grants_of n m (change.RevokeOption by atoms whom) = []
grants_of n m change.Other = []

-- the same of changes of which the first has moment m
abbrev pub granted_from : ℕ → ℕ → List Change → List Grant
granted_from n m [] = []
granted_from n m (c ∷ cs) = grants_of n m c ++ granted_from (n + made_by c) (m + 1) cs

-- Fagin 1978: all grants that were made, in order, repeated ones too
abbrev pub granted : List Change → List Grant
granted changes = granted_from 0 1 changes

-- whether a change of moment m strikes the grant: a revocation, later than the grant, that names it
abbrev pub is_struck_by : ℕ → Change → Grant → Bool
is_struck_by m (change.Create table owner) g = false
is_struck_by m (change.Grant by atoms whom option) g = false
is_struck_by m (change.Revoke by atoms whom) g = nat_lt g.moment.0 m && names by atoms whom g
is_struck_by m (change.RevokeOption by atoms whom) g = false
is_struck_by m change.Other g = false

-- the same of changes of which the first has moment m
abbrev pub is_struck_from : ℕ → List Change → Grant → Bool
is_struck_from m [] g = false
is_struck_from m (c ∷ cs) g = is_struck_by m c g || is_struck_from (m + 1) cs g

-- whether a revocation of a later moment names the grant
abbrev pub is_struck : List Change → Grant → Bool
is_struck changes g = is_struck_from 1 changes g

-- the grants that were made and not struck
abbrev pub unstruck_after : List Change → List Grant
unstruck_after changes = filter (λ g. not (is_struck changes g)) (granted changes)

-- whether a change of moment m takes the grant's option, if it has one: a revocation of the option,
-- later than the grant, that names it
abbrev pub is_unoptioned_by : ℕ → Change → Grant → Bool
is_unoptioned_by m (change.Create table owner) g = false
is_unoptioned_by m (change.Grant by atoms whom option) g = false
is_unoptioned_by m (change.Revoke by atoms whom) g = false
is_unoptioned_by m (change.RevokeOption by atoms whom) g =
    nat_lt g.moment.0 m && names by atoms whom g
is_unoptioned_by m change.Other g = false

-- the same of changes of which the first has moment m
abbrev pub is_unoptioned_from : ℕ → List Change → Grant → Bool
is_unoptioned_from m [] g = false
is_unoptioned_from m (c ∷ cs) g = is_unoptioned_by m c g || is_unoptioned_from (m + 1) cs g

-- whether a revocation of the option of a later moment names the grant
abbrev pub is_unoptioned : List Change → Grant → Bool
is_unoptioned changes g = is_unoptioned_from 1 changes g

-- the grants that were made and not struck, the unoptioned ones without their option
abbrev pub left_after : List Change → List Grant
left_after changes = map (option_off (is_unoptioned changes)) (unstruck_after changes)

-- the owners, after one more change
abbrev pub owners_with : List Ownership → Change → List Ownership
owners_with owners (change.Create table owner) = with_owner table owner owners
owners_with owners (change.Grant by atoms whom option) = with_granted atoms owners
owners_with owners (change.Revoke by atoms whom) = owners
owners_with owners (change.RevokeOption by atoms whom) = owners
owners_with owners change.Other = owners

-- the owners of the tables that were created
abbrev pub owners_after : List Change → List Ownership
owners_after changes = fold owners_with [] changes

-- Griffiths and Wade 1976: the authorizations in force are those that would be if the revoked
-- grants had never been made, nor the revoked options given
abbrev pub in_force_after : List Change → List Grant
in_force_after changes = valid (owners_after changes) (left_after changes)

-- owners, grants in force, and how many were ever made
abbrev pub content_after : List Change → Rights
content_after changes = record {
  owners = owners_after changes;
  in_force = in_force_after changes;
  made = made_by_all changes;
}

-- whether a grant of an atom of the table was ever made
abbrev pub is_granted : List Change → Name → Bool
is_granted changes table = list_any (λ g. same_name table g.atom.table) (granted changes)
