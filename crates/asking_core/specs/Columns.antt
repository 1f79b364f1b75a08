-- The columns of the rows that a statement answers.
use Rattle.std.specs.Prelude.{List, [], Some, None, filter_map, slice_get}
use Rattle.std.specs.Option.{option_and_then}
use Rattle.base_core.specs.Filter.{column_index}
use Rattle.base_core.specs.declared.name.Name.{Name}
use Rattle.base_core.specs.declared.value.Column.{Column}
use Rattle.reader_core.specs.declared.statement.Statement.{Statement}
use Rattle.reader_core.specs.declared.statement.Statement.TheVariants as statements

-- the columns of these names, in the order of the names
abbrev pub columns_named : List Column → List Name → List Column
columns_named columns list =
    filter_map (λ name. option_and_then (slice_get columns) (column_index columns name)) list

-- of these columns of its table those that a SELECT lists, or all where it lists none
abbrev pub result_columns : Statement → List Column → List Column
result_columns (statements.Select None table filter) columns = columns
result_columns (statements.Select (Some list) table filter) columns = columns_named columns list
result_columns _ columns = []
