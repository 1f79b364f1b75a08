use Rattle.std.proofs.Common.{◌≡◌, ◌++◌, map, take}
use Rattle.export_core.specs.Record.{IsBetween, text_in}
use Rattle.explain_records.specs.Telling.{lines}
use Rattle.explain_records.specs.Records.{right_record}
use Rattle.explain_records.proofs.rights.put_rights.Given as goal

abbrev pub invariant-loop-grant : goal.invariant-loop-grant
invariant-loop-grant l = record {
  written : text_in l.writer ≡ text_in l.initial.writer ++ lines (map right_record (take l.grant-index l.grants));
  between : IsBetween l.writer;
}
