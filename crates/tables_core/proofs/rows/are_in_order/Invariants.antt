use Rattle.std.proofs.Common.{◌≡◌, ◌<◌, ℕ, Some, slice_get}
use Rattle.base_core.specs.Filter.{column_index}
use Rattle.base_core.specs.declared.name.Name.{Name}
use Rattle.tables_core.proofs.rows.are_in_order.Given as goal

abbrev pub invariant-loop-at : goal.invariant-loop-at
invariant-loop-at l = (k : ℕ) (name : Name) → k < l.at → slice_get l.names.items.now k ≡ Some name → column_index l.names.columns.now name ≡ Some k
