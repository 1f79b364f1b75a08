use Rattle.std.proofs.Common.{◌≡◌, ◌++◌, filter, map, take}
use Rattle.export_core.specs.Record.{IsBetween, text_in}
use Rattle.explain_records.specs.Telling.{lines}
use Rattle.explain_records.specs.Records.{is_of_one, right_record}
use Rattle.explain_records.proofs.rights.put_rights_of.Given as goal

abbrev pub invariant-loop-grant : goal.invariant-loop-grant
invariant-loop-grant l = record {
  written : text_in l.writer ≡ text_in l.initial.writer ++ lines (map right_record (filter (is_of_one l.atoms) (take l.grant-index l.grants)));
  between : IsBetween l.writer;
}
