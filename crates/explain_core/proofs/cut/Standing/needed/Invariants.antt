use Rattle.std.proofs.Common.{◌≡◌, ◌≤◌, ◌*◌, ◌^◌, ◌+◌, true, length, drop}
use Rattle.std.specs.List.{All}
use Rattle.explain_core.specs.Losses.{IsLoss, holds_without, others_than}
use Rattle.explain_core.proofs.cut.Standing.needed.Given as goal

-- those from here on were tried
abbrev pub invariant-loop-tried : goal.invariant-loop-tried
invariant-loop-tried l = record {
  within : l.tried ≤ length l.needed.items;
  some : 1 ≤ l.step;
  loss : IsLoss l.self.owners.now l.self.grants.now l.self.atom.now l.user l.by l.needed.items;
  tried : All (λ v. holds_without l.self.owners.now l.self.grants.now l.self.atom.now l.user l.by (others_than v l.needed.items) ≡ true) (drop l.tried l.needed.items);
}

-- what is left is less, or what is tried of it
abbrev pub decreases-loop-tried : goal.decreases-loop-tried
decreases-loop-tried l = l.tried * 2 ^ 64 + l.step
