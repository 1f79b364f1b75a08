use Rattle.std.proofs.Common.{◌≡◌, false, take, flat_map}
use Rattle.std.specs.Io.KnownBytes.{Appends}
use Rattle.messages_core.proofs.writing.write_fields.Given as goal

abbrev pub invariant-loop-field : goal.invariant-loop-field
invariant-loop-field g l = record {
  works : g.W.Sink.failed l.writer ≡ false;
  written : Appends (g.W.Sink.taken l.initial.writer) (g.W.Sink.taken l.writer) (flat_map g.F.Field.spelled (take l.field-index l.fields));
}
