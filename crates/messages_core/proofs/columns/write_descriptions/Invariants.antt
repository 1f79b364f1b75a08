use Rattle.std.proofs.Common.{◌≡◌, false, take, flat_map}
use Rattle.std.specs.Io.KnownBytes.{Appends}
use Rattle.messages_core.specs.Columns.{table_columns}
use Rattle.messages_core.specs.Rows.{described}
use Rattle.messages_core.proofs.columns.write_descriptions.Given as goal

abbrev pub invariant-loop-i : goal.invariant-loop-i
invariant-loop-i g l = record {
  works : g.W.Sink.failed l.writer ≡ false;
  written : Appends (g.W.Sink.taken l.initial.writer) (g.W.Sink.taken l.writer) (flat_map described (take l.i (table_columns l.columns l.formats)));
}
