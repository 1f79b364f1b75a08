use Rattle.std.proofs.Common.{◌≡◌, ◌++◌, length}
use Rattle.asking_core.specs.Columns.{columns_named}
use Rattle.asking_core.proofs.describing.columns_named.Given as goal

abbrev pub invariant-loop-rest : goal.invariant-loop-rest
invariant-loop-rest l = l.listed.items ++ columns_named l.columns l.rest ≡ columns_named l.columns l.initial.rest

abbrev pub decreases-loop-rest : goal.decreases-loop-rest
decreases-loop-rest l = length l.rest
