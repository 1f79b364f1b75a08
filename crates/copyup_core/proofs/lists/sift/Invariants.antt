use Rattle.std.proofs.Common.{◌≡◌, length}
use Rattle.copyup_core.specs.Parallel.{slots_of}
use Rattle.copyup_core.proofs.Sifting.{IsSiftedTo}
use Rattle.copyup_core.proofs.lists.sift.Given as goal

abbrev pub invariant-loop-at : goal.invariant-loop-at
invariant-loop-at g l =
    (length l.states ≡ length l.fn.states) × IsSiftedTo (g.S.Sieve.keeps l.sieve) l.capture l.at l.dropped (slots_of l.entries l.fn.states l.kept) (slots_of l.entries l.states l.kept)
