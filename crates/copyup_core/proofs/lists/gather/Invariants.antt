use Rattle.std.proofs.Common.{◌≡◌, [], length}
use Rattle.copyup_core.specs.Parallel.{slots_of}
use Rattle.copyup_core.proofs.Gathering.{IsGatheredTo}
use Rattle.copyup_core.proofs.lists.gather.Given as goal

abbrev pub invariant-loop-at : goal.invariant-loop-at
invariant-loop-at g l =
    (length l.entries ≡ length l.fn.entries) × (length l.states ≡ length l.fn.states) × IsGatheredTo l.at l.to (slots_of l.fn.entries l.fn.states []) (slots_of l.entries l.states [])
