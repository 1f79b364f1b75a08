use Rattle.std.proofs.Common.{◌≡◌, false, map, take}
use Rattle.dump_core.specs.Dump.{insertion, as_table}
use Rattle.dump_core.specs.Ending.{WritesLines}
use Rattle.dump_core.proofs.contents.write_rows_kept.Given as goal

abbrev pub invariant-loop-row : goal.invariant-loop-row
invariant-loop-row g l =
    (g.W.Sink.failed l.writer ≡ false)
    × WritesLines (map (insertion l.table.name l.table.owner) (take l.row-index (as_table l.table).1.rows)) (g.W.Sink.taken l.initial.writer) (g.W.Sink.taken l.writer)
    × (l.number ≡ l.row-index)
