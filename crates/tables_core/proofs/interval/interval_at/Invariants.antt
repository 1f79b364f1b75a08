use Rattle.std.proofs.Common.{◌≡◌, true, List, slice_get, take}
use Rattle.std.specs.List.{list_all}
use Rattle.base_core.specs.Filter.{meets}
use Rattle.base_core.specs.declared.value.Value.{Value}
use Rattle.tables_core.specs.Indexing.{IsCellKept}
use Rattle.tables_core.proofs.interval.interval_at.Given as goal

abbrev pub invariant-loop-at : goal.invariant-loop-at
invariant-loop-at l = (row : List Value) → list_all (meets l.conditions.columns.now row) (take l.at l.conditions.items.now) ≡ true → IsCellKept l.key l.interval (slice_get row l.place)
