-- What tables hold, and what each change makes of it.
use Rattle.std.specs.Prelude.{ℕ, ◌+◌, Bool, not, List, [], ◌∷◌, ◌++◌, Option, slice_get, slice_set, slice_index_or, map, drop, filter, option_and_then, if◌then◌else◌}
use Rattle.std.specs.List.{filter_map, flat_map, fold}
use Rattle.std.specs.Map.{lookup, set_value, values_of}
use Rattle.std.specs.Option.{option_map_or}
use Rattle.base_core.specs.Words.{same_name}
use Rattle.base_core.specs.Filter.{column_index, cell, with_value, is_chosen}
use Rattle.base_core.specs.declared.name.Name.{Name}
use Rattle.base_core.specs.declared.name.User.{User}
use Rattle.base_core.specs.declared.value.Value.{Value}
use Rattle.base_core.specs.declared.value.Row.{Row}
use Rattle.base_core.specs.declared.value.Column.{Column}
use Rattle.base_core.specs.declared.condition.Condition.{Condition}
use Rattle.base_core.specs.declared.condition.Assignment.{Assignment}

-- one table: its owner, its columns, how many rows were ever inserted, and the rows that it has
-- now, each with its number, which is how many rows were inserted before it
pub record Table : Type 0 where
  pub owner : User
  pub columns : List Column
  pub inserted : ℕ
  pub rows : List (ℕ × Row)

-- what there is: the tables in the order of their creation, each under its name; and the rows that
-- a capture has still to give, as a list for each table that it covers, which are the first ones
pub record Database : Type 0 where
  pub tables : List (Name × Table)
  pub rest : List (List Row)

-- the rows of all tables, each with its number and the name of its table, one table after another
abbrev pub all_rows : List (Name × Table) → List (Name × (ℕ × Row))
all_rows tables = flat_map (λ t. map (λ numbered. (t.0, numbered)) t.1.rows) tables

-- the rows of each table, in order, without their numbers
abbrev pub rows_by_table : List (Name × Table) → List (List Row)
rows_by_table tables = map (λ t. values_of t.1.rows) tables

-- what a capture has still to give of the table at a place: nothing where it does not cover it
abbrev pub rest_at : ℕ → Database → List Row
rest_at place d = slice_index_or d.rest place []

-- the first k of these rows are given, or all
abbrev pub with_rows_given : ℕ → ℕ → Database → Database
with_rows_given place k d = record d { rest = slice_set d.rest place (drop k (rest_at place d)) }

-- whether a numbered row satisfies the filter
abbrev pub satisfies : List Column → List Condition → ℕ × Row → Bool
satisfies columns conditions numbered = is_chosen columns conditions numbered.1.values

-- the values of the named columns, in the order of the names
abbrev pub projected_values : List Column → List Name → List Value → List Value
projected_values columns names values = filter_map (cell columns values) names

-- the values after each assignment in turn
abbrev pub assigned_values : List Column → List Assignment → List Value → List Value
assigned_values columns sets values =
    fold (λ made set. with_value made (column_index columns set.column) set.value) values sets

-- a numbered row after the assignments, under the number that it had
abbrev pub assigned_row : List Column → List Assignment → ℕ × Row → ℕ × Row
assigned_row columns sets numbered =
    (numbered.0, record { values = assigned_values columns sets numbered.1.values })

-- the same where the row satisfies the filter; any other row is left as it is
abbrev pub updated_row : List Column → List Assignment → List Condition → ℕ × Row → ℕ × Row
updated_row columns sets conditions numbered =
    if satisfies columns conditions numbered then assigned_row columns sets numbered else numbered

-- a new table: no row is or was in it
abbrev pub empty_table : User → List Column → Table
empty_table owner columns = record { owner = owner; columns = columns; inserted = 0; rows = [] }

-- the table with one row more, behind the others, numbered by the rows inserted before it
abbrev pub with_row : Row → Table → Table
with_row row t = record t { inserted = t.inserted + 1; rows = t.rows ++ (t.inserted, row) ∷ [] }

-- the table without the chosen rows
abbrev pub without_chosen_rows : List Condition → Table → Table
without_chosen_rows conditions t =
    record t { rows = filter (λ numbered. not (satisfies t.columns conditions numbered)) t.rows }

-- the table with the assignments made in each chosen row, in place
abbrev pub with_updated_rows : List Assignment → List Condition → Table → Table
with_updated_rows sets conditions t =
    record t { rows = map (updated_row t.columns sets conditions) t.rows }

-- the chosen rows, cut to the named columns
abbrev pub selected_rows : List Name → List Condition → Table → List Row
selected_rows names conditions t =
    map (λ numbered. record { values = projected_values t.columns names numbered.1.values })
    (filter (satisfies t.columns conditions) t.rows)

-- the table of this name
abbrev pub table_of : List (Name × Table) → Name → Option Table
table_of tables name = lookup (same_name name) tables

-- the column of this name in the table of that name
abbrev pub column_of : List (Name × Table) → Name → Name → Option Column
column_of tables name column =
    option_and_then (λ t. option_and_then (slice_get t.columns) (column_index t.columns column))
    (table_of tables name)

-- the tables with a change made to the one of this name; where there is none, the tables as they
-- are
abbrev pub with_change : Name → (Table → Table)
    → List (Name × Table) → List (Name × Table)
with_change name change tables =
    option_map_or (λ t. set_value (same_name name) tables (change t)) (table_of tables name) tables
