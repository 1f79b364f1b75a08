use Rattle.std.proofs.Common.{◌≡◌, false, map, take}
use Rattle.dump_core.specs.Dump.{creation, tables_kept}
use Rattle.dump_core.specs.Ending.{WritesLines}
use Rattle.dump_core.proofs.contents.ImageContents.write_creations.Given as goal

abbrev pub invariant-loop-table : goal.invariant-loop-table
invariant-loop-table g l =
    (g.W.Sink.failed l.writer ≡ false)
    × WritesLines (map creation (take l.table-index (tables_kept l.self))) (g.W.Sink.taken l.initial.writer) (g.W.Sink.taken l.writer)
