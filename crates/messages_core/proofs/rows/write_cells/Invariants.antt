use Rattle.std.proofs.Common.{◌≡◌, false, take, flat_map}
use Rattle.std.specs.Io.KnownBytes.{Appends}
use Rattle.messages_core.specs.Fields.{value}
use Rattle.messages_core.specs.Rows.{row_values}
use Rattle.messages_core.proofs.rows.write_cells.Given as goal

abbrev pub invariant-loop-i : goal.invariant-loop-i
invariant-loop-i g l = record {
  works : g.W.Sink.failed l.writer ≡ false;
  written : Appends (g.W.Sink.taken l.initial.writer) (g.W.Sink.taken l.writer) (flat_map value (take l.i (row_values l.values l.formats)));
}
