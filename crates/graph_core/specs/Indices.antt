-- Users and privileges by index, and the grants for which links stand.
use Rattle.std.specs.Prelude.{◌≡◌, ◌<◌, ℕ, Bool, false, ◌==◌, List, [], ◌++◌, Option, Some, None, length, get_or}
use Rattle.std.specs.HashSet.{HashSet, IsUnique}
use Rattle.std.specs.Str.{bytes_eq}
use Rattle.base_core.specs.Users.{same_user}
use Rattle.base_core.specs.Privileges.{same_atom}
use Rattle.base_core.specs.declared.name.Name.{Name}
use Rattle.base_core.specs.declared.name.User.{User}
use Rattle.base_core.specs.declared.privilege.Atom.{Atom}
use Rattle.base_core.specs.declared.privilege.Kind.TheVariants as kinds
use Rattle.grants_core.specs.declared.grant.Grant.{Grant}
use Rattle.links_core.specs.declared.link.Link.{Link}
use Rattle.links_core.specs.declared.standing.Standing.{Standing}
use Rattle.links_core.specs.Links.{goes_to}
use Rattle.grants_core.specs.declared.key.Key.{Key}
use Rattle.graph_core.specs.declared.indices.Place.{Place}
use Rattle.grants_core.specs.Keys.{same_key}

-- the names of users, and the privileges, in the order of their indices
pub record Indexed : Type 0 where
  pub users : List Name
  pub atoms : List Key

-- no name and no privilege has two indices
abbrev pub IsEachOnce : {S T : Type 0} → HashSet Name S → HashSet Key T → Type 0
IsEachOnce users atoms = IsUnique bytes_eq users × IsUnique same_key atoms

-- the user and the privilege of an index, and something where it is of none
abbrev pub user_at : Indexed → ℕ → User
user_at indexed i = record { 0 = get_or indexed.users i [] }

abbrev pub atom_at : Indexed → ℕ → Atom
atom_at indexed i = (get_or indexed.atoms i (record { 0 = record { table = []; kind = kinds.Insert } })).0

-- the grant for which a link stands
abbrev pub grant_of : Indexed → Link → Grant
grant_of indexed l = record {
  number = l.number;
  moment = l.moment;
  atom = atom_at indexed l.atom;
  grantor = user_at indexed l.grantor;
  grantee = user_at indexed l.grantee;
  option = l.option;
}

-- the standing of a grant: its number, and whether it has its option
abbrev pub standing_of : Grant → Standing
standing_of g = record { number = g.number; option = g.option }

-- each index of the link is of a user, or of a privilege
pub record IsWithin (indexed : Indexed) (l : Link) : Type 0 where
  pub atom : l.atom < length indexed.atoms
  pub grantor : l.grantor < length indexed.users
  pub grantee : l.grantee < length indexed.users

-- users and privileges keep their indices, and more may have come
pub record Extends (old new : Indexed) : Type 0 where
  pub users : List Name
  pub atoms : List Key
  pub users_are : new.users ≡ old.users ++ users
  pub atoms_are : new.atoms ≡ old.atoms ++ atoms

-- whether an index was found, and is i
abbrev pub is_index : Option ℕ → ℕ → Bool
is_index None i = false
is_index (Some found) i = i == found

-- what was found is the index of the user: no other index is his
abbrev pub IsUserIndex : Indexed → User → Option ℕ → Type 0
IsUserIndex indexed user found =
    (i : ℕ) → i < length indexed.users → same_user (user_at indexed i) user ≡ is_index found i

-- what was found is the index of the privilege
abbrev pub IsAtomIndex : Indexed → Atom → Option ℕ → Type 0
IsAtomIndex indexed atom found =
    (i : ℕ) → i < length indexed.atoms → same_atom (atom_at indexed i) atom ≡ is_index found i

-- no two indices are of the same user, or of the same privilege
pub record AreApart (indexed : Indexed) : Type 0 where
  pub users : (i : ℕ) → i < length indexed.users
      → IsUserIndex indexed (user_at indexed i) (Some i)
  pub atoms : (i : ℕ) → i < length indexed.atoms
      → IsAtomIndex indexed (atom_at indexed i) (Some i)

-- whether a place was found, and the link gives its privilege to its user
abbrev pub goes_to_place : Option Place → Link → Bool
goes_to_place None l = false
goes_to_place (Some place) l = goes_to place.user place.atom l
