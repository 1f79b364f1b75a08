use Rattle.std.proofs.Common.{◌≡◌, ◌++◌, drop}
use Rattle.std.specs.List.{flat_map}
use Rattle.export_core.specs.Record.{IsBegun, more_text, text_in}
use Rattle.stream_core.specs.Lines.{column_fields}
use Rattle.stream_core.proofs.telling.put_columns.Given as goal

abbrev pub invariant-loop-column : goal.invariant-loop-column
invariant-loop-column l = record {
  written : text_in l.writer ++ more_text (flat_map column_fields (drop l.column-index l.columns)) ≡ text_in l.initial.writer ++ more_text (flat_map column_fields l.columns);
  begun : IsBegun l.writer;
}
