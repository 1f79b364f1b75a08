use Rattle.std.proofs.Common.{◌≡◌, false, take, flat_map}
use Rattle.std.specs.Io.KnownBytes.{Appends}
use Rattle.reply_core.specs.Texts.{value_text}
use Rattle.reply_core.proofs.records.write_values.Given as goal

abbrev pub invariant-loop-value : goal.invariant-loop-value
invariant-loop-value g l = record {
  works : g.W.Sink.failed l.writer ≡ false;
  written : Appends (g.W.Sink.taken l.initial.writer) (g.W.Sink.taken l.writer) (flat_map value_text (take l.value-index l.values));
}
