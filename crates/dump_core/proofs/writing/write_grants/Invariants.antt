use Rattle.std.proofs.Common.{◌≡◌, false, List, ◌++◌, map, length}
use Rattle.system_core.specs.declared.machine.event.Entry.{Entry}
use Rattle.dump_core.specs.Dump.{granting, grants_together}
use Rattle.dump_core.specs.Ending.{WritesLines}
use Rattle.dump_core.proofs.writing.write_grants.Given as goal

abbrev pub invariant-loop-rest : goal.invariant-loop-rest
invariant-loop-rest g l =
    (done : List Entry)
    × (g.W.Sink.failed l.writer ≡ false)
    × WritesLines done (g.W.Sink.taken l.initial.writer) (g.W.Sink.taken l.writer)
    × (done ++ map granting (grants_together l.rest) ≡ map granting (grants_together l.grants))

abbrev pub decreases-loop-rest : goal.decreases-loop-rest
decreases-loop-rest g l = length l.rest
