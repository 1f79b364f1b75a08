use Rattle.std.proofs.Common.{◌≡◌, ◌++◌, take, map}
use Rattle.export_core.specs.Export.{cut}
use Rattle.export_core.specs.Record.{IsBegun, more_text, text_in}
use Rattle.export_core.proofs.cut_record.put_cut.Given as goal

abbrev pub invariant-loop-at : goal.invariant-loop-at
invariant-loop-at g l = record {
  written : text_in l.writer ≡ text_in l.initial.writer ++ more_text (map g.F.Field.bytes (cut l.marks (take l.at l.fields)));
  begun : IsBegun l.writer;
}
