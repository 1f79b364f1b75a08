use Rattle.std.proofs.Common.{◌≡◌, true, List, take}
use Rattle.std.specs.List.{list_all}
use Rattle.base_core.specs.Filter.{meets}
use Rattle.base_core.specs.declared.value.Value.{Value}
use Rattle.tables_core.specs.Bounding.{AdmitsRow}
use Rattle.tables_core.proofs.bounds.bounds_of.Given as goal

abbrev pub invariant-loop-at : goal.invariant-loop-at
invariant-loop-at l = (row : List Value) → list_all (meets l.conditions.columns.now row) (take l.at l.conditions.items.now) ≡ true → AdmitsRow l.bounds row
