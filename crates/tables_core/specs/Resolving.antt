-- Columns that a statement names, looked up once.
use Rattle.std.specs.Prelude.{◌≡◌, ◌<◌, ℕ, List, Option, Some, None, slice_get, slice_index_or}
use Rattle.base_core.specs.Filter.{column_index}
use Rattle.base_core.specs.declared.name.Name.{Name}
use Rattle.base_core.specs.declared.value.Column.{Column}

-- at the place of each of the first 32 items stands the index of the column that it names
abbrev pub AreResolved : {T : Type 0} → (T → Name) → List Column → List T → List (Option ℕ) → Type 0
AreResolved {T} name_of columns items indexes =
    (k : ℕ) (item : T)
    → k < 32 → slice_get items k ≡ Some item
    → slice_index_or indexes k None ≡ column_index columns (name_of item)

-- each name is that of the column at its own place
abbrev pub AreNamesInOrder : List Column → List Name → Type 0
AreNamesInOrder columns names =
    (k : ℕ) (name : Name) → slice_get names k ≡ Some name → column_index columns name ≡ Some k
