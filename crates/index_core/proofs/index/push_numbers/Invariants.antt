use Rattle.std.proofs.Common.{◌≡◌, ◌++◌, map, take}
use Rattle.index_core.proofs.index.push_numbers.Given as goal

abbrev pub invariant-loop-entry : goal.invariant-loop-entry
invariant-loop-entry l = l.numbers.items ≡ l.fn.numbers.items ++ map (λ e. e.number) (take l.entry-index l.entries)
