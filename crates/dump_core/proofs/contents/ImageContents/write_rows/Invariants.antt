use Rattle.std.proofs.Common.{◌≡◌, false, take}
use Rattle.std.specs.List.{flat_map}
use Rattle.dump_core.specs.Dump.{insertions, tables_kept}
use Rattle.dump_core.specs.Ending.{WritesLines}
use Rattle.dump_core.proofs.contents.ImageContents.write_rows.Given as goal

abbrev pub invariant-loop-table : goal.invariant-loop-table
invariant-loop-table g l =
    (g.W.Sink.failed l.writer ≡ false)
    × WritesLines (flat_map insertions (take l.table-index (tables_kept l.self))) (g.W.Sink.taken l.initial.writer) (g.W.Sink.taken l.writer)
