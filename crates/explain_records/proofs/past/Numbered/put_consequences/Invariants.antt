use Rattle.std.proofs.Common.{◌≡◌, ◌++◌, filter, map, take}
use Rattle.export_core.specs.Record.{IsBetween, text_in}
use Rattle.explain_core.specs.Falls.{is_taken_at}
use Rattle.explain_records.specs.Consequences.{consequence_record}
use Rattle.explain_records.specs.Telling.{lines}
use Rattle.explain_records.proofs.past.Numbered.put_consequences.Given as goal

abbrev pub invariant-loop-life : goal.invariant-loop-life
invariant-loop-life l = record {
  written : text_in l.writer ≡ text_in l.initial.writer ++ lines (map (consequence_record l.self.history.now l.self.numbers.now l.at) (filter (is_taken_at l.at) (take l.life-index l.life-items)));
  between : IsBetween l.writer;
}
