use Rattle.std.proofs.Common.{◌≡◌, ◌+◌, ◌++◌, drop, length}
use Rattle.grants_core.specs.Content.{singles}
use Rattle.grants_core.proofs.singles.single_grants.Given as goal

-- the grants so far and those to come
abbrev pub invariant-loop-atom : goal.invariant-loop-atom
invariant-loop-atom l = l.grants.items ++ singles (l.first + length l.grants.items) l.at l.by (drop l.atom-index l.atoms) l.whom l.option ≡ singles l.first l.at l.by l.atoms l.whom l.option
