-- When two keys are the same, what is hashed of one, and the keys of a grant.
use Rattle.std.specs.Prelude.{ℕ, Bool, ◌&&◌, List, [], ◌++◌}
use Rattle.std.specs.Hash as fed
use Rattle.std.specs.Hash.{HashWrites}
use Rattle.base_core.specs.declared.privilege.Kind.{Kind}
use Rattle.base_core.specs.declared.privilege.Kind.TheVariants as kinds
use Rattle.base_core.specs.Privileges.{same_atom}
use Rattle.base_core.specs.Users.{same_user}
use Rattle.grants_core.specs.declared.key.Key.{Key}
use Rattle.grants_core.specs.declared.key.Holding.{Holding}
use Rattle.grants_core.specs.declared.key.Granted.{Granted}
use Rattle.grants_core.specs.declared.grant.Grant.{Grant}

-- whether two keys are of the same privilege
abbrev pub same_key : Key → Key → Bool
same_key a b = same_atom a.0 b.0

-- whether the same user holds the same
abbrev pub same_holding : Holding → Holding → Bool
same_holding a b = same_user a.user b.user && same_key a.privilege b.privilege

-- whether the same user granted the same to the same
abbrev pub same_granted : Granted → Granted → Bool
same_granted a b = same_user a.by b.by && same_holding a.holding b.holding

-- the letter of a kind
abbrev pub kind_letter : Kind → ℕ
kind_letter (kinds.Select column) = 83
kind_letter kinds.Insert = 73
kind_letter kinds.Delete = 68
kind_letter (kinds.Update column) = 85

-- the name of its column, or nothing where it has none
abbrev pub kind_column : Kind → List ℕ
kind_column (kinds.Select column) = column
kind_column kinds.Insert = []
kind_column kinds.Delete = []
kind_column (kinds.Update column) = column

-- what is hashed of a privilege: its table, and the kind's letter and column
abbrev pub key_writes : Key → HashWrites
key_writes k =
    fed.slice fed.u8 k.0.table ++ fed.u8 (kind_letter k.0.kind)
    ++ fed.slice fed.u8 (kind_column k.0.kind)

-- of a user who holds one: his name before it
abbrev pub holding_writes : Holding → HashWrites
holding_writes h = fed.slice fed.u8 h.user.0 ++ key_writes h.privilege

-- and the grantor's before that
abbrev pub granted_writes : Granted → HashWrites
granted_writes g = fed.slice fed.u8 g.by.0 ++ holding_writes g.holding

-- what the grant gives, and to whom
abbrev pub given_by : Grant → Holding
given_by g = record { user = g.grantee; privilege = record { 0 = g.atom } }

-- what its grantor needs to make it
abbrev pub needed_by : Grant → Holding
needed_by g = record { user = g.grantor; privilege = record { 0 = g.atom } }

-- what it gives, and to whom and by whom
abbrev pub granted_by : Grant → Granted
granted_by g = record { by = g.grantor; holding = given_by g }
