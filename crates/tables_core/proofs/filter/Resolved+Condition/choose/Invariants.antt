use Rattle.std.proofs.Common.{◌≡◌, true, take}
use Rattle.std.specs.List.{list_all}
use Rattle.base_core.specs.Filter.{meets}
use Rattle.tables_core.proofs.filter.Resolved+Condition.choose.Given as goal

abbrev pub invariant-loop-at : goal.invariant-loop-at
invariant-loop-at l = list_all (meets l.self.columns.now l.values) (take l.at l.self.items.now) ≡ true
