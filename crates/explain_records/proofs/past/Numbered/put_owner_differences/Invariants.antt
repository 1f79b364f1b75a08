use Rattle.std.proofs.Common.{◌≡◌, ◌++◌, take}
use Rattle.export_core.specs.Record.{IsBetween, text_in}
use Rattle.explain_records.specs.Differences.{owner_differences_by}
use Rattle.explain_records.specs.Telling.{lines, numbered_records}
use Rattle.explain_records.proofs.past.Numbered.put_owner_differences.Given as goal

abbrev pub invariant-loop-change : goal.invariant-loop-change
invariant-loop-change l = record {
  now : l.now ≡ l.change-index;
  written : text_in l.writer ≡ text_in l.initial.writer ++ lines (numbered_records (owner_differences_by l.self.numbers.now l.at.0) 1 (take l.change-index l.change-items));
  between : IsBetween l.writer;
}
