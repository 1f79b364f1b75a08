use Rattle.std.proofs.Common.{◌≡◌, ◌<◌, Some, None, length, reverse, slice_get}
use Rattle.explain_core.specs.Lives.{lives_of}
use Rattle.explain_core.specs.declared.life.Life.{Life}
use Rattle.explain_core.proofs.ChainLemmas.{StandsFrom}
use Rattle.explain_core.proofs.history.History.chain.Given as goal

abbrev pub invariant-loop-support : goal.invariant-loop-support
invariant-loop-support l = record {
  within : l.place < length l.lives;
  stands : (life : Life) → slice_get (lives_of l.self) l.fn.number ≡ Some life → life.fell ≡ None
      → StandsFrom l.self l.place life (reverse l.chain.items);
}

abbrev pub decreases-loop-support : goal.decreases-loop-support
decreases-loop-support l = l.place
