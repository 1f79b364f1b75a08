use Rattle.std.proofs.Common.{◌≡◌, ◌++◌, take, map}
use Rattle.export_core.specs.Record.{IsBegun, more_text, text_in}
use Rattle.export_core.proofs.record.put_fields.Given as goal

abbrev pub invariant-loop-field : goal.invariant-loop-field
invariant-loop-field g l = record {
  written : text_in l.writer ≡ text_in l.initial.writer ++ more_text (map g.F.Field.bytes (take l.field-index l.fields));
  begun : IsBegun l.writer;
}
