-- What a filter chooses.
use Rattle.std.specs.Prelude.{ℕ, Bool, false, List, Option, Some, None, slice_get, slice_set, position}
use Rattle.std.specs.declared.cmp.Ordering.{Ordering}
use Rattle.std.specs.Ordering.{is_eq, is_ne, is_lt, is_le, is_gt, is_ge}
use Rattle.std.specs.List.{list_all}
use Rattle.base_core.specs.Words.{same_name}
use Rattle.base_core.specs.Values.{value_order}
use Rattle.base_core.specs.declared.name.Name.{Name}
use Rattle.base_core.specs.declared.value.Value.{Value}
use Rattle.base_core.specs.declared.value.Column.{Column}
use Rattle.base_core.specs.declared.condition.Condition.{Condition}
use Rattle.base_core.specs.declared.condition.Comparison.{Comparison}
use Rattle.base_core.specs.declared.condition.Comparison.TheVariants as comparisons

-- whether values in this order meet a comparison
abbrev pub accepts : Comparison → Ordering → Bool
accepts comparisons.Equal o = is_eq o
accepts comparisons.NotEqual o = is_ne o
accepts comparisons.Less o = is_lt o
accepts comparisons.LessEqual o = is_le o
accepts comparisons.Greater o = is_gt o
accepts comparisons.GreaterEqual o = is_ge o

-- the same where there may be no order
abbrev pub accepts_order : Comparison → Option Ordering → Bool
accepts_order comparison None = false
accepts_order comparison (Some o) = accepts comparison o

-- whether a value stands so to a literal
abbrev pub compares : Comparison → Value → Value → Bool
compares comparison value literal = accepts_order comparison (value_order value literal)

-- the index of the column of this name
abbrev pub column_index : List Column → Name → Option ℕ
column_index columns name = position (λ c. same_name c.name name) columns

-- the value at an index, if there is one
abbrev pub at_index : List Value → Option ℕ → Option Value
at_index values None = None
at_index values (Some i) = slice_get values i

-- the values with this one at an index, if there is one
abbrev pub with_value : List Value → Option ℕ → Value → List Value
with_value values None value = values
with_value values (Some i) value = slice_set values i value

-- the value of a row in the column of this name
abbrev pub cell : List Column → List Value → Name → Option Value
cell columns values name = at_index values (column_index columns name)

-- whether a cell that may be missing meets a condition
abbrev pub cell_meets : Condition → Option Value → Bool
cell_meets condition None = false
cell_meets condition (Some value) = compares condition.comparison value condition.literal

-- whether a row meets a condition
abbrev pub meets : List Column → List Value → Condition → Bool
meets columns values condition = cell_meets condition (cell columns values condition.column)

-- whether a row meets every condition
abbrev pub is_chosen : List Column → List Condition → List Value → Bool
is_chosen columns filter values = list_all (meets columns values) filter
