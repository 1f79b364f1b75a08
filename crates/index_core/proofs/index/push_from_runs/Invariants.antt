use Rattle.std.proofs.Common.{◌≡◌, ◌++◌, take}
use Rattle.index_core.specs.Listed.{entries_of, numbers_within}
use Rattle.index_core.proofs.index.push_from_runs.Given as goal

abbrev pub invariant-loop-run : goal.invariant-loop-run
invariant-loop-run l = l.numbers.items ≡ l.fn.numbers.items ++ numbers_within l.interval (entries_of (take l.run-index l.runs))
