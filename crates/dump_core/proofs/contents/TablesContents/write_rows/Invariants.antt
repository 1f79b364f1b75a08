use Rattle.std.proofs.Common.{◌≡◌, false, take}
use Rattle.std.specs.List.{flat_map}
use Rattle.dump_core.specs.Dump.{insertions}
use Rattle.dump_core.specs.Ending.{WritesLines}
use Rattle.dump_core.proofs.contents.TablesContents.write_rows.Given as goal

abbrev pub invariant-loop-index : goal.invariant-loop-index
invariant-loop-index g l =
    (g.W.Sink.failed l.writer ≡ false)
    × WritesLines (flat_map insertions (take l.index l.self.tables)) (g.W.Sink.taken l.initial.writer) (g.W.Sink.taken l.writer)
