use Rattle.std.proofs.Common.{◌≤◌}
use Rattle.explain_core.specs.Ends.{AreNoted}
use Rattle.explain_core.proofs.coming.Coming.go_back.Given as goal

-- the changes from here on are noted
abbrev pub invariant-loop-at : goal.invariant-loop-at
invariant-loop-at l = record {
  not_past : l.to ≤ l.at;
  noted : AreNoted l.changes l.at l.self;
}
