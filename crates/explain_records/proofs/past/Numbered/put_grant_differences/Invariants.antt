use Rattle.std.proofs.Common.{◌≡◌, ◌++◌, take}
use Rattle.std.specs.List.{flat_map}
use Rattle.export_core.specs.Record.{IsBetween, text_in}
use Rattle.explain_records.specs.Differences.{difference_records}
use Rattle.explain_records.specs.Telling.{lines}
use Rattle.explain_records.proofs.past.Numbered.put_grant_differences.Given as goal

abbrev pub invariant-loop-life : goal.invariant-loop-life
invariant-loop-life l = record {
  written : text_in l.writer ≡ text_in l.initial.writer ++ lines (flat_map (difference_records l.self.history.now l.self.numbers.now l.at.0) (take l.life-index l.life-items));
  between : IsBetween l.writer;
}
