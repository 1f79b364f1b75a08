use Rattle.std.proofs.Common.{◌≡◌, false, map, take}
use Rattle.dump_core.specs.Dump.{creation}
use Rattle.dump_core.specs.Ending.{WritesLines}
use Rattle.dump_core.proofs.contents.TablesContents.write_creations.Given as goal

abbrev pub invariant-loop-index : goal.invariant-loop-index
invariant-loop-index g l =
    (g.W.Sink.failed l.writer ≡ false)
    × WritesLines (map creation (take l.index l.self.tables)) (g.W.Sink.taken l.initial.writer) (g.W.Sink.taken l.writer)
