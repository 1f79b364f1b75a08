use Rattle.std.proofs.Common.{◌≡◌, ◌≤◌, false, length, drop}
use Rattle.std.specs.List.{All}
use Rattle.grants_core.specs.Owners.{owns}
use Rattle.explain_core.specs.Losses.{HoldsAgainst}
use Rattle.explain_core.proofs.cut.Standing.cut.Given as goal

-- no grantor from here on takes it
abbrev pub invariant-loop-at : goal.invariant-loop-at
invariant-loop-at l = record {
  within : l.at ≤ length l.chain;
  unowned : All (λ g. owns l.self.owners.now g.grantor l.self.atom.now ≡ false) (drop l.at l.chain);
  held : All (λ g. HoldsAgainst l.self.owners.now l.self.grants.now l.self.atom.now l.user g.grantor) (drop l.at l.chain);
}
