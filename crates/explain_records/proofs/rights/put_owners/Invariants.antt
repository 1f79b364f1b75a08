use Rattle.std.proofs.Common.{◌≡◌, ◌++◌, take}
use Rattle.export_core.specs.Record.{IsBetween, text_in}
use Rattle.explain_records.specs.Telling.{lines, numbered_records}
use Rattle.explain_records.specs.Records.{owner_records_by}
use Rattle.explain_records.proofs.rights.put_owners.Given as goal

abbrev pub invariant-loop-change : goal.invariant-loop-change
invariant-loop-change l = record {
  at : l.at ≡ l.change-index;
  written : text_in l.writer ≡ text_in l.initial.writer ++ lines (numbered_records owner_records_by 1 (take l.change-index l.changes));
  between : IsBetween l.writer;
}
