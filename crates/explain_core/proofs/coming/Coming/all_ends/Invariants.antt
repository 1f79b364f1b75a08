use Rattle.std.proofs.Common.{◌≡◌, ◌≤◌, length, map, reverse, take, drop}
use Rattle.std.specs.List.{All}
use Rattle.explain_core.specs.Ends.{next_ends, AreNoted}
use Rattle.explain_core.proofs.coming.Coming.all_ends.Given as goal

-- the ends of the grants from here on, the last first
abbrev pub invariant-loop-at : goal.invariant-loop-at
invariant-loop-at l = record {
  within : l.before ≤ length l.changes;
  noted : AreNoted l.changes l.before l.self;
  early : All (λ g. g.moment.0 ≤ l.before) (take l.at l.made);
  found : l.ends.items ≡ reverse (map (next_ends l.changes) (drop l.at l.made));
}
