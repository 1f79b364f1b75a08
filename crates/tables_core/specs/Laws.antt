-- Laws of what tables hold.
use Rattle.std.specs.Prelude.{◌≡◌, ◌<◌, List, [], ◌∷◌, ◌++◌, None, Some, All, AllPairs, option_map, if◌then◌else◌}
use Rattle.std.specs.Map.{keys_of}
use Rattle.base_core.specs.Words.{same_name}
use Rattle.base_core.specs.declared.name.Name.{Name}
use Rattle.tables_core.specs.Contents.{Table, table_of, with_change}

-- after a change to one table, a look-up gives the changed table under its name, and under each
-- other name what it gave
abbrev pub LookUpAfterChange : Type 0
LookUpAfterChange =
    (tables : List (Name × Table)) (name other : Name) (change : Table → Table)
    → table_of (with_change name change tables) other
    ≡ (if same_name name other then option_map change (table_of tables other)
    else table_of tables other)

-- after a new table, a look-up gives it under its name, and under each other name what it gave
abbrev pub LookUpAfterNew : Type 0
LookUpAfterNew =
    (tables : List (Name × Table)) (name other : Name) (t : Table)
    → table_of tables name ≡ None
    → table_of (tables ++ (name, t) ∷ []) other
    ≡ (if same_name name other then Some t else table_of tables other)

-- a change to one table leaves the names and their order
abbrev pub NamesAfterChange : Type 0
NamesAfterChange = (tables : List (Name × Table)) (name : Name) (change : Table → Table)
    → keys_of (with_change name change tables) ≡ keys_of tables

-- the numbers of the rows rise, so that no two are the same, and the next number is above them all
pub record HasRisingNumbers (t : Table) : Type 0 where
  pub rising : AllPairs (λ earlier later. earlier.0 < later.0) t.rows
  pub fresh : All (λ numbered. numbered.0 < t.inserted) t.rows

-- a change keeps the rows so numbered
abbrev pub KeepsNumbered : (Table → Table) → Type 0
KeepsNumbered change = (t : Table) → HasRisingNumbers t → HasRisingNumbers (change t)
