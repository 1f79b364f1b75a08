-- Tables that are well typed: columns with different names, and rows that fit them.
use Rattle.std.specs.Prelude.{◌≡◌, Bool, true, List, map, slice_get, option_and_then}
use Rattle.std.specs.Option.{option_map_or}
use Rattle.std.specs.List.{AllByRecursion, AllZip}
use Rattle.base_core.specs.Distinct.{are_distinct}
use Rattle.base_core.specs.Values.{has_type}
use Rattle.base_core.specs.Filter.{column_index}
use Rattle.base_core.specs.declared.value.Value.{Value}
use Rattle.base_core.specs.declared.value.Column.{Column}
use Rattle.base_core.specs.declared.condition.Assignment.{Assignment}
use Rattle.tables_core.specs.Contents.{Table}

-- no two of the columns have one name
abbrev pub ColumnsDiffer : List Column → Type 0
ColumnsDiffer columns = are_distinct (map (λ c. c.name) columns) ≡ true

-- the values fit the columns: as many as there are, each of its column's type
abbrev pub ValuesFit : List Column → List Value → Type 0
ValuesFit columns values = AllZip (λ column value. has_type value column.ty ≡ true) columns values

-- whether the column of the assignment's name, if there is one, may hold its value
abbrev pub assignment_fits : List Column → Assignment → Bool
assignment_fits columns set =
    option_map_or (λ column. has_type set.value column.ty)
    (option_and_then (slice_get columns) (column_index columns set.column))
    true

-- each of the assignments fits the columns
abbrev pub AssignmentsFit : List Column → List Assignment → Type 0
AssignmentsFit columns sets = AllByRecursion (λ set. assignment_fits columns set ≡ true) sets

-- each row of the table fits its columns
abbrev pub RowsFit : Table → Type 0
RowsFit t = AllByRecursion (λ numbered. ValuesFit t.columns numbered.1.values) t.rows

-- a table is well typed: its columns have different names, and its rows fit them
pub record IsWellTyped (t : Table) : Type 0 where
  pub columns : ColumnsDiffer t.columns
  pub rows : RowsFit t
