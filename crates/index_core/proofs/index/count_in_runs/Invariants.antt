use Rattle.std.proofs.Common.{◌≡◌, ◌-◌, ◌^◌, length, min, take}
use Rattle.index_core.specs.Within.{entries_within}
use Rattle.index_core.specs.Listed.{entries_of}
use Rattle.index_core.proofs.index.count_in_runs.Given as goal

abbrev pub invariant-loop-run : goal.invariant-loop-run
invariant-loop-run l = l.count ≡ min (length (entries_within l.interval (entries_of (take l.run-index l.runs)))) (2 ^ 64 - 1)
