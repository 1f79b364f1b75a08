use Rattle.std.proofs.Common.{◌+◌, ◌<◌, ℕ}
use Rattle.std.specs.List.{slice_index}
use Rattle.index_core.proofs.rising.are_rising.Given as goal

abbrev pub invariant-loop-at : goal.invariant-loop-at
invariant-loop-at l = (k : ℕ) → k + 1 < l.at → slice_index l.numbers k < slice_index l.numbers (k + 1)
