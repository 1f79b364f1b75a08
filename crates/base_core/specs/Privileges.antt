-- Privileges on columns, and when two privileges are the same.
use Rattle.std.specs.Prelude.{Bool, true, false, ◌&&◌}
use Rattle.base_core.specs.Words.{same_name}
use Rattle.base_core.specs.declared.name.Name.{Name}
use Rattle.base_core.specs.declared.privilege.Kind.{Kind}
use Rattle.base_core.specs.declared.privilege.Kind.TheVariants.{Select, Insert, Delete, Update}
use Rattle.base_core.specs.declared.privilege.Atom.{Atom}

-- the privilege of this kind on the table
abbrev pub of_table : Name → Kind → Atom
of_table table kind = record { table = table; kind = kind }

-- the privilege to select this column of the table
abbrev pub to_select : Name → Name → Atom
to_select table column = of_table table (Select column)

-- the privilege to update it
abbrev pub to_update : Name → Name → Atom
to_update table column = of_table table (Update column)

-- whether two kinds are the same: two SELECTs, or two UPDATEs, where they are of the same column
abbrev pub same_kind : Kind → Kind → Bool
same_kind (Select a) (Select b) = same_name a b
same_kind Insert Insert = true
same_kind Delete Delete = true
same_kind (Update a) (Update b) = same_name a b
same_kind (Select a) _ = false
same_kind Insert _ = false
same_kind Delete _ = false
same_kind (Update a) _ = false

-- whether two atoms are the same: of one table and of the same kind
abbrev pub same_atom : Atom → Atom → Bool
same_atom a b = same_name a.table b.table && same_kind a.kind b.kind
