-- A column found in what the table of a name has.
use Rattle.std.proofs.Common.{◌≡◌, List, [], Option, Some, None, refl}
use Rattle.std.specs.Prelude.{slice_get, option_and_then}
use Rattle.std.specs.Option.{option_map_or}
use Rattle.base_core.specs.Filter.{column_index}
use Rattle.base_core.specs.declared.name.Name.{Name}
use Rattle.base_core.specs.declared.value.Column.{Column}
use Rattle.tables_core.specs.Contents.{Table, table_of, column_of}
use Rattle.monitor_core.specs.Verdict.{columns_of}

-- where there is no such table, there are no columns, and so no column
pub column_of_columns : (tables : List (Name × Table)) (table name : Name) → column_of tables table name ≡ option_and_then (slice_get (columns_of tables table)) (column_index (columns_of tables table) name)
column_of_columns tables table name = by_table (table_of tables table)
  where
    found : List Column → Option Column
    found columns = option_and_then (slice_get columns) (column_index columns name)

    by_table : (t : Option Table) → option_and_then (λ t. found t.columns) t ≡ found (option_map_or (λ t. t.columns) t [])
    by_table None = refl
    by_table (Some t) = refl
