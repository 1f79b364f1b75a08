use Rattle.std.proofs.Common.{◌≡◌, true, ◌++◌, length}
use Rattle.std.specs.List.{list_all}
use Rattle.monitor_core.specs.Atoms.{columns_listed}
use Rattle.dump_core.specs.Dump.{are_few_names, privileges_of_kinds}
use Rattle.dump_core.proofs.privileges.privileges_of.Given as goal

-- the privileges so far, and those of the rest
abbrev pub invariant-loop-rest : goal.invariant-loop-rest
invariant-loop-rest l =
    (l.listed.items ++ privileges_of_kinds l.rest ≡ privileges_of_kinds l.kinds)
    × (list_all (λ p. are_few_names 32 (columns_listed p)) (privileges_of_kinds l.rest) ≡ true)

abbrev pub decreases-loop-rest : goal.decreases-loop-rest
decreases-loop-rest l = length l.rest
