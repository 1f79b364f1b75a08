use Rattle.std.proofs.Common.{◌≡◌, ◌<◌, ℕ, Some, None, length, slice_get, slice_index_or}
use Rattle.base_core.specs.Filter.{column_index}
use Rattle.tables_core.proofs.resolved.indexes_of.Given as goal

abbrev pub invariant-loop-at : goal.invariant-loop-at
invariant-loop-at g l = record {
  size : length l.indexes ≡ 32;
  known : (k : ℕ) (item : _) → k < l.at → slice_get l.items k ≡ Some item → slice_index_or l.indexes k None ≡ column_index l.columns (g.T.Named.name_of item);
}
