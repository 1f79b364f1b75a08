use Rattle.std.proofs.Common.{◌≡◌, length, ◌-◌}
use Rattle.capture_core.specs.Filling.{completed_from}
use Rattle.capture_core.proofs.filling.Filling.finish.Given as goal

abbrev pub invariant-loop-table : goal.invariant-loop-table
invariant-loop-table l = completed_from l.tables l.self ≡ completed_from l.tables l.initial.self

abbrev pub decreases-loop-table : goal.decreases-loop-table
decreases-loop-table l = length l.tables.rest - length l.self.whole
