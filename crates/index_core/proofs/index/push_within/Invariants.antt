use Rattle.std.proofs.Common.{◌≡◌, ◌++◌, take}
use Rattle.index_core.specs.Listed.{numbers_within}
use Rattle.index_core.proofs.index.push_within.Given as goal

abbrev pub invariant-loop-entry : goal.invariant-loop-entry
invariant-loop-entry l = l.numbers.items ≡ l.fn.numbers.items ++ numbers_within l.interval (take l.entry-index l.entries)
