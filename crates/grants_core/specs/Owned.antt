-- The owners as they are kept: the name of each table, with its owner and note.
use Rattle.std.specs.Prelude.{List, map}
use Rattle.base_core.specs.declared.name.Name.{Name}
use Rattle.grants_core.specs.declared.grant.Ownership.{Ownership}
use Rattle.grants_core.specs.declared.owners.Owned.{Owned}

-- a table's name and what is kept of it, as one record
abbrev pub ownership : Name × Owned → Ownership
ownership e = record { table = e.0; owner = e.1.owner; granted = e.1.granted }

-- the same of all tables
abbrev pub ownerships : List (Name × Owned) → List Ownership
ownerships tables = map ownership tables
