use Rattle.std.proofs.Common.{◌≡◌, ◌<◌, Some, length, reverse, slice_get}
use Rattle.base_core.specs.declared.value.Moment.{Moment}
use Rattle.explain_core.specs.Lives.{lives_of}
use Rattle.explain_core.specs.declared.life.Life.{Life}
use Rattle.explain_core.proofs.DescentLemmas.{FallsFrom}
use Rattle.explain_core.proofs.history.History.descent.Given as goal

abbrev pub invariant-loop-above : goal.invariant-loop-above
invariant-loop-above l = record {
  within : l.place < length l.lives;
  falls : (life : Life) (at : Moment)
      → slice_get (lives_of l.self) l.number ≡ Some life → life.fell ≡ Some at
      → FallsFrom l.self at l.number l.place life (reverse l.line.items);
}

abbrev pub decreases-loop-above : goal.decreases-loop-above
decreases-loop-above l = l.place
