-- The privileges that GRANT and REVOKE name, as atoms.
use Rattle.std.specs.Prelude.{List, [], ◌∷◌, map, Option}
use Rattle.std.specs.Option.{unwrap_or}
use Rattle.std.specs.List.{flat_map}
use Rattle.base_core.specs.declared.name.Name.{Name}
use Rattle.base_core.specs.declared.value.Column.{Column}
use Rattle.base_core.specs.declared.privilege.Kind.TheVariants as kinds
use Rattle.base_core.specs.declared.privilege.Atom.{Atom}
use Rattle.base_core.specs.Privileges.{of_table, to_select, to_update}
use Rattle.reader_core.specs.declared.privilege.Privilege.{Privilege}
use Rattle.reader_core.specs.declared.privilege.Privilege.TheVariants as privileges
use Rattle.monitor_core.specs.declared.atoms.ByColumn.{ByColumn}
use Rattle.monitor_core.specs.declared.atoms.ByColumn.TheVariants as by_column

-- the privilege to select a column of the table, or to update it
abbrev pub of_column : ByColumn → Name → Name → Atom
of_column by_column.Select table column = to_select table column
of_column by_column.Update table column = to_update table column

-- the columns that are listed, or with no list all, in table order
abbrev pub columns_given : List Column → Option (List Name) → List Name
columns_given columns list = unwrap_or list (map (λ c. c.name) columns)

-- the atoms of a privilege on a table with these columns, as written; SELECT alone and UPDATE alone
-- are of every column
abbrev pub atoms_of_one : Name → List Column → Privilege → List Atom
atoms_of_one table columns (privileges.Select list) =
    map (to_select table) (columns_given columns list)
atoms_of_one table columns privileges.Insert = of_table table kinds.Insert ∷ []
atoms_of_one table columns privileges.Delete = of_table table kinds.Delete ∷ []
atoms_of_one table columns (privileges.Update list) =
    map (to_update table) (columns_given columns list)

-- the atoms of privileges, in the order written
abbrev pub atoms_of : Name → List Column → List Privilege → List Atom
atoms_of table columns asked = flat_map (atoms_of_one table columns) asked

-- the columns that a privilege lists
abbrev pub columns_listed : Privilege → List Name
columns_listed (privileges.Select list) = unwrap_or list []
columns_listed privileges.Insert = []
columns_listed privileges.Delete = []
columns_listed (privileges.Update list) = unwrap_or list []
