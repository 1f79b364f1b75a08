use Rattle.std.proofs.Common.{ℕ, ◌<◌}
use Rattle.binding_core.specs.Standing.{StandsAt}
use Rattle.binding_core.proofs.standing.place_type.Given as goal

abbrev pub invariant-loop-index : goal.invariant-loop-index
invariant-loop-index l = (k : ℕ) → k < l.index → StandsAt l.ones l.others l.number k → ⊥
