use Rattle.std.proofs.Common.{◌+◌, ◌-◌, List, IfSome, length}
use Rattle.system_core.specs.declared.machine.event.Entry.{Entry}
use Rattle.recovery_core.specs.Reading.{IsSound, IsFurther, IsReadUpTo}
use Rattle.recovery_core.proofs.pieces.pieces_read.Given as goal

abbrev pub invariant-loop-alloc : goal.invariant-loop-alloc
invariant-loop-alloc g l = record {
  sound : IsSound l.read;
  further : IsFurther l.fn.read l.read;
  up_to : IfSome (g.F.Folder.state l.folder) (λ s. (start : List Entry) → IsReadUpTo start l.fn.read s → IsReadUpTo start l.read s);
}

abbrev pub decreases-loop-alloc : goal.decreases-loop-alloc
decreases-loop-alloc g l = (l.read.recovered.system.limits.changes - length l.read.recovered.system.journal) + l.read.skips
