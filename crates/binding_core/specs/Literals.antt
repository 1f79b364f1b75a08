-- The literals of a statement, and the columns for which they stand.
use Rattle.std.specs.Prelude.{ℕ, ℤ, pos, List, [], ◌∷◌, ◌++◌, Option, Some, None, option_map, map, slice_get}
use Rattle.std.specs.Option.{option_and_then}
use Rattle.base_core.specs.Filter.{column_index}
use Rattle.base_core.specs.declared.name.Name.{Name}
use Rattle.base_core.specs.declared.value.Value.{Value}
use Rattle.base_core.specs.declared.value.Value.TheVariants as values_of
use Rattle.base_core.specs.declared.value.Column.{Column}
use Rattle.base_core.specs.declared.value.ColType.{ColType}
use Rattle.base_core.specs.declared.value.ColType.TheVariants as types
use Rattle.base_core.specs.declared.condition.Condition.{Condition}
use Rattle.base_core.specs.declared.condition.Assignment.{Assignment}
use Rattle.reader_core.specs.declared.statement.Statement.{Statement}
use Rattle.reader_core.specs.declared.statement.Statement.TheVariants as statements

-- the literals of conditions
abbrev pub filter_literals : List Condition → List Value
filter_literals filter = map (λ c. c.literal) filter

-- the literals of SET, and behind them those of WHERE
abbrev pub update_literals : List Assignment → List Condition → List Value
update_literals sets filter = map (λ a. a.value) sets ++ filter_literals filter

-- the literals of a statement, in the order of its line
abbrev pub literals : Statement → List Value
literals (statements.CreateTable table columns) = []
literals (statements.Insert table values) = values
literals (statements.Select list table filter) = filter_literals filter
literals (statements.Delete table filter) = filter_literals filter
literals (statements.Update table sets filter) = update_literals sets filter
literals (statements.Grant privileges table users option) = []
literals (statements.Revoke privileges table users) = []
literals (statements.RevokeOption privileges table users) = []
literals statements.Checkpoint = []
literals statements.Checkpoints = []
literals (statements.Export number only) = values_of.Int (pos number) ∷ []

-- the number that a value is, if it is one
abbrev pub value_number : Value → Option ℤ
value_number (values_of.Int n) = Some n
value_number (values_of.Text t) = None

-- the same of the value at an index of a list, if there is one
abbrev pub number_in : List Value → ℕ → Option ℤ
number_in values index = option_and_then value_number (slice_get values index)

-- the same of the literal at this index of a statement
abbrev pub literal_number : Statement → ℕ → Option ℤ
literal_number s index = number_in (literals s) index

-- the type of the column at this index, if there is one
abbrev pub type_at : List Column → ℕ → Option ColType
type_at columns index = option_map (λ c. c.ty) (slice_get columns index)

-- the type of the column of this name
abbrev pub named_type : List Column → Name → Option ColType
named_type columns name = option_and_then (type_at columns) (column_index columns name)

-- the type of the column of the name at this index
abbrev pub type_in : List Column → List Name → ℕ → Option ColType
type_in columns names index = option_and_then (named_type columns) (slice_get names index)

-- the columns that conditions name
abbrev pub filter_names : List Condition → List Name
filter_names filter = map (λ c. c.column) filter

-- those that SET names, and behind them those of WHERE
abbrev pub update_names : List Assignment → List Condition → List Name
update_names sets filter = map (λ a. a.column) sets ++ filter_names filter

-- the type of the column for which the literal at this index of a statement stands, if there is
-- such a column: of INSERT the one at this index, of SET and WHERE the one that is named; the
-- number of EXPORT is an integer
abbrev pub literal_type : List Column → Statement → ℕ → Option ColType
literal_type columns (statements.CreateTable table named) index = None
literal_type columns (statements.Insert table values) index = type_at columns index
literal_type columns (statements.Select list table filter) index =
    type_in columns (filter_names filter) index
literal_type columns (statements.Delete table filter) index =
    type_in columns (filter_names filter) index
literal_type columns (statements.Update table sets filter) index =
    type_in columns (update_names sets filter) index
literal_type columns (statements.Grant privileges table users option) index = None
literal_type columns (statements.Revoke privileges table users) index = None
literal_type columns (statements.RevokeOption privileges table users) index = None
literal_type columns statements.Checkpoint index = None
literal_type columns statements.Checkpoints index = None
literal_type columns (statements.Export number only) index = Some types.Integer
