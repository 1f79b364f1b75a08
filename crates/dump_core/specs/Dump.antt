-- The dump of a journal: what it leaves, as a journal that makes each table, row and grant in force
-- once.
use Rattle.std.specs.Prelude.{ℕ, Bool, ◌&&◌, nat_le, List, [], ◌∷◌, ◌++◌, length, map, Some}
use Rattle.std.specs.Bool.{beq}
use Rattle.std.specs.List.{flat_map, list_all}
use Rattle.std.specs.Cmp.Lexicographic.{pointwise}
use Rattle.base_core.specs.Distinct.{are_distinct}
use Rattle.base_core.specs.Words.{same_name}
use Rattle.base_core.specs.Users.{same_user}
use Rattle.base_core.specs.Privileges.{same_kind}
use Rattle.base_core.specs.declared.name.Name.{Name}
use Rattle.base_core.specs.declared.name.User.{User}
use Rattle.base_core.specs.declared.value.Row.{Row}
use Rattle.base_core.specs.declared.privilege.Kind.{Kind}
use Rattle.base_core.specs.declared.privilege.Kind.TheVariants as kinds
use Rattle.reader_core.specs.Privileges.{are_different}
use Rattle.reader_core.specs.declared.privilege.Privilege.{Privilege}
use Rattle.reader_core.specs.declared.privilege.Privilege.TheVariants as privileges
use Rattle.reader_core.specs.declared.statement.Statement.TheVariants as statements
use Rattle.tables_core.specs.Contents.{Table}
use Rattle.grants_core.specs.declared.grant.Grant.{Grant}
use Rattle.capture_core.specs.declared.image.Image.{Image}
use Rattle.capture_core.specs.declared.image.TableImage.{TableImage}
use Rattle.monitor_core.specs.Atoms.{columns_listed}
use Rattle.system_core.specs.declared.machine.event.Entry.{Entry}
use Rattle.system_core.specs.Journal.{tables_at, rights_at}
use Rattle.system_core.specs.World.{entry}
use Rattle.dump_core.specs.Grouped.{Group, members, grouped}

-- ---- tables and rows
-- a table, created by its owner
abbrev pub creation : Name × Table → Entry
creation t = entry 0 t.1.owner (statements.CreateTable t.0 t.1.columns)

-- a row of the table, inserted by the owner
abbrev pub insertion : Name → User → ℕ × Row → Entry
insertion table owner numbered = entry 0 owner (statements.Insert table numbered.1.values)

-- the rows of a table, in their order
abbrev pub insertions : Name × Table → List Entry
insertions t = map (insertion t.0 t.1.owner) t.1.rows

-- ---- grants that one statement makes
-- whether the names are different, and no more than the limit
abbrev pub are_few_names : ℕ → List Name → Bool
are_few_names limit names = nat_le (length names) limit && are_distinct names

-- whether two grants are by one grantor, on one table, with the same option
abbrev pub are_made_alike : Grant → Grant → Bool
are_made_alike g h =
    same_user g.grantor h.grantor
    && same_name g.atom.table h.atom.table
    && beq g.option h.option

-- to whom grants are
abbrev pub grantees : Group Grant → List User
grantees grants = map (λ g. g.grantee) (members grants)

-- whether grants are made alike, of one atom, and to at most 16 different users
abbrev pub are_of_one_atom : Group Grant → Bool
are_of_one_atom grants =
    list_all
    (λ g. are_made_alike grants.first g && same_kind grants.first.atom.kind g.atom.kind)
    grants.others
    && are_few_names 16 (map (λ u. u.0) (grantees grants))

-- this kind as a privilege: SELECT and UPDATE of the one column
abbrev pub privilege_of : Kind → Privilege
privilege_of (kinds.Select column) = privileges.Select (Some (column ∷ []))
privilege_of kinds.Insert = privileges.Insert
privilege_of kinds.Delete = privileges.Delete
privilege_of (kinds.Update column) = privileges.Update (Some (column ∷ []))

-- the kind before privileges: its column before those of the first, if that has the same word
abbrev pub with_kind : Kind → List Privilege → List Privilege
with_kind (kinds.Select column) (privileges.Select (Some columns) ∷ more) =
    privileges.Select (Some (column ∷ columns)) ∷ more
with_kind (kinds.Update column) (privileges.Update (Some columns) ∷ more) =
    privileges.Update (Some (column ∷ columns)) ∷ more
with_kind kind more = privilege_of kind ∷ more

-- the kinds as privileges: neighbours that are SELECTs as one, and neighbours that are UPDATEs
abbrev pub privileges_of_kinds : List Kind → List Privilege
privileges_of_kinds [] = []
privileges_of_kinds (kind ∷ more) = with_kind kind (privileges_of_kinds more)

-- whether privileges have different words, and each at most 32 different columns
abbrev pub may_be_listed : List Privilege → Bool
may_be_listed ps = are_different ps && list_all (λ p. are_few_names 32 (columns_listed p)) ps

-- the privileges of grants, atom by atom
abbrev pub privileges_given : Group (Group Grant) → List Privilege
privileges_given atoms =
    privileges_of_kinds (map (λ grants. grants.first.atom.kind) (members atoms))

-- whether one statement makes the grants, atom by atom: they are made alike, each atom's to the
-- same users, and their privileges may be listed
abbrev pub are_of_one_statement : Group (Group Grant) → Bool
are_of_one_statement atoms =
    list_all
    (λ grants. are_made_alike atoms.first.first grants.first
    && pointwise same_user (grantees atoms.first) (grantees grants))
    atoms.others
    && may_be_listed (privileges_given atoms)

-- neighbours of one atom together, and of these neighbours of one statement
abbrev pub grants_together : List Grant → List (Group (Group Grant))
grants_together grants = grouped are_of_one_statement (grouped are_of_one_atom grants)

-- the statement, by their grantor
abbrev pub granting : Group (Group Grant) → Entry
granting atoms =
    let g = atoms.first.first in
    entry 0 g.grantor
    (statements.Grant (privileges_given atoms) g.atom.table (grantees atoms.first) g.option)

-- ---- the dump
-- the tables in order, then their rows, then the grants in order, neighbours of one statement
-- together
abbrev pub dump_of : List (Name × Table) → List Grant → List Entry
dump_of tables grants =
    map creation tables ++ (flat_map insertions tables ++ map granting (grants_together grants))

-- what a journal leaves: its tables with their rows, and the grants in force
abbrev pub dump : List Entry → List Entry
dump journal = dump_of (tables_at journal) (rights_at journal).in_force

-- ---- the dump of an image
-- a table as an image keeps it, whose rows have no numbers
abbrev pub as_table : TableImage → Name × Table
as_table t = (
  t.name,
  record {
    owner = t.owner;
    columns = t.columns;
    inserted = 0;
    rows = map (λ row. (0, row)) t.rows;
  },
)

abbrev pub tables_kept : Image → List (Name × Table)
tables_kept image = map as_table image.tables

-- the dump of what an image keeps
abbrev pub dump_of_image : Image → List Entry
dump_of_image image = dump_of (tables_kept image) image.grants
