use Rattle.std.proofs.Common.{◌≡◌, ◌++◌, map, take}
use Rattle.export_core.specs.Record.{IsBetween, text_in}
use Rattle.explain_records.specs.Telling.{lines}
use Rattle.explain_records.specs.Records.{grant_record}
use Rattle.explain_records.proofs.past.Numbered.put_all_grants.Given as goal

abbrev pub invariant-loop-life : goal.invariant-loop-life
invariant-loop-life l = record {
  written : text_in l.writer ≡ text_in l.initial.writer ++ lines (map (grant_record l.self.history.now l.self.numbers.now) (take l.life-index l.life-items));
  between : IsBetween l.writer;
}
