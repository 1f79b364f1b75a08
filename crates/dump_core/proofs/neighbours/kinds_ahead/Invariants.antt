use Rattle.std.proofs.Common.{◌-◌, length}
use Rattle.dump_core.proofs.Following.{Follows}
use Rattle.dump_core.proofs.neighbours.kinds_ahead.Given as goal

abbrev pub invariant-loop-count : goal.invariant-loop-count
invariant-loop-count l = Follows l.grants l.users l.kinds.items l.count

abbrev pub decreases-loop-count : goal.decreases-loop-count
decreases-loop-count l = length l.grants - l.count
