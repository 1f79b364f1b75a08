-- The interval of values that conditions leave to a column.
use Rattle.std.proofs.Common.{◌≡◌, true, Option, Some, None}
use Rattle.std.proofs.lemmas.Bool.{false≢true}
use Rattle.base_core.specs.Filter.{compares, cell_meets}
use Rattle.base_core.specs.declared.value.Value.{Value}
use Rattle.base_core.specs.declared.condition.Condition.{Condition}
use Rattle.index_core.specs.declared.interval.Interval.{Interval}
use Rattle.index_core.specs.declared.key.Key.{Key}
use Rattle.index_core.specs.Within.{IsWithin}
use Rattle.tables_core.specs.Indexing.{IsCellWithin}

module _ (key : Key) (condition : Condition) where
  -- a cell that meets the condition is within what it narrows an interval to
  pub cell-narrowed : (old new : Interval) (cell : Option Value) → ((v : Value) → IsWithin key old v → compares condition.comparison v condition.literal ≡ true → IsWithin key new v) → IsCellWithin key old cell → cell_meets condition cell ≡ true → IsCellWithin key new cell
  cell-narrowed old new None narrows none met = absurd none
  cell-narrowed old new (Some v) narrows within met = narrows v within met

  -- and within any that has all values
  pub cell-whole : (whole : Interval) (cell : Option Value) → ((v : Value) → IsWithin key whole v) → cell_meets condition cell ≡ true → IsCellWithin key whole cell
  cell-whole whole None all met = absurd (false≢true met)
  cell-whole whole (Some v) all met = all v
