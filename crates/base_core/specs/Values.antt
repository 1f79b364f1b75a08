-- The order of values, and their types.
use Rattle.std.specs.Prelude.{Bool, true, false, Option, Some, None}
use Rattle.std.specs.declared.cmp.Ordering.{Ordering}
use Rattle.std.specs.Ordering.{nat_cmp, int_cmp}
use Rattle.std.specs.Cmp.Lexicographic.{slice_cmp}
use Rattle.base_core.specs.declared.value.Value.{Value}
use Rattle.base_core.specs.declared.value.Value.TheVariants as values
use Rattle.base_core.specs.declared.value.ColType.{ColType}
use Rattle.base_core.specs.declared.value.ColType.TheVariants as types

-- numbers in the order of whole numbers, texts in that of their bytes, and no order between the two
abbrev pub value_order : Value → Value → Option Ordering
value_order (values.Int a) (values.Int b) = Some (int_cmp a b)
value_order (values.Int a) (values.Text s) = None
value_order (values.Text s) (values.Int b) = None
value_order (values.Text s) (values.Text t) = Some (slice_cmp nat_cmp s t)

-- whether a column of the type may hold the value
abbrev pub has_type : Value → ColType → Bool
has_type (values.Int n) types.Integer = true
has_type (values.Int n) types.Text = false
has_type (values.Text t) types.Integer = false
has_type (values.Text t) types.Text = true
