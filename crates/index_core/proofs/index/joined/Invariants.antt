use Rattle.std.proofs.Common.{◌≡◌, ◌++◌}
use Rattle.index_core.specs.Listed.{entries_of}
use Rattle.index_core.proofs.index.joined.Given as goal

abbrev pub invariant-loop : goal.invariant-loop
invariant-loop l = entries_of l.runs.items ++ l.all.items ≡ entries_of l.fn.runs.items ++ l.fn.tail.items
