use Rattle.std.proofs.Common.{◌≡◌, ◌≤◌, ◌+◌, ◌-◌, length, sum_by}
use Rattle.capture_core.specs.Filling.{PassesRows}
use Rattle.capture_core.proofs.filling.Filling.take.Given as goal

abbrev pub invariant-loop-taken : goal.invariant-loop-taken
invariant-loop-taken l = record {
  passes : PassesRows l.initial.tables l.tables l.initial.self l.self;
  few : l.taken ≤ l.count;
  rest : l.taken + sum_by length l.tables.rest ≡ sum_by length l.initial.tables.rest;
}

abbrev pub decreases-loop-taken : goal.decreases-loop-taken
decreases-loop-taken l = (l.count - l.taken) + (length l.tables.rest - length l.self.whole)
