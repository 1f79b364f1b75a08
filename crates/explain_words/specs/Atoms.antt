-- All that can be granted on a table.
use Rattle.std.specs.Prelude.{List, ◌∷◌, ◌++◌, map}
use Rattle.base_core.specs.Privileges.{of_table, to_select, to_update}
use Rattle.base_core.specs.declared.name.Name.{Name}
use Rattle.base_core.specs.declared.privilege.Atom.{Atom}
use Rattle.base_core.specs.declared.privilege.Kind.TheVariants as kinds
use Rattle.base_core.specs.declared.value.Column.{Column}

-- the atoms of a table with these columns: SELECT of each, INSERT, DELETE, and UPDATE of each
abbrev pub all_atoms : Name → List Column → List Atom
all_atoms table columns =
    map (λ c. to_select table c.name) columns
    ++ of_table table kinds.Insert ∷ of_table table kinds.Delete
    ∷ map (λ c. to_update table c.name) columns
