use Rattle.std.proofs.Common.{◌≡◌, length, map}
use Rattle.base_core.specs.Distinct.{are_distinct}
use Rattle.tables_core.proofs.columns.columns_differ.Given as goal

-- the columns so far have names that stand once: whether the rest differ is whether all do
abbrev pub invariant-loop-first : goal.invariant-loop-first
invariant-loop-first l = are_distinct (map (λ c. c.name) l.rest) ≡ are_distinct (map (λ c. c.name) l.columns)

abbrev pub decreases-loop-first : goal.decreases-loop-first
decreases-loop-first l = length l.rest
