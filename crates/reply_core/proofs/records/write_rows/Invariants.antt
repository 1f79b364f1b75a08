use Rattle.std.proofs.Common.{◌≡◌, false, take}
use Rattle.std.specs.Io.KnownBytes.{Appends}
use Rattle.export_core.specs.Record.{row_lines}
use Rattle.reply_core.proofs.records.write_rows.Given as goal

abbrev pub invariant-loop-row : goal.invariant-loop-row
invariant-loop-row g l = record {
  works : g.W.Sink.failed l.writer ≡ false;
  written : Appends (g.W.Sink.taken l.initial.writer) (g.W.Sink.taken l.writer) (row_lines (take l.row-index l.rows));
}
