use Rattle.std.proofs.Common.{◌≡◌, ◌++◌, map, take}
use Rattle.export_core.specs.Record.{IsBetween, text_in}
use Rattle.explain_records.specs.Telling.{lines}
use Rattle.explain_records.specs.Cuttings.{cut_record}
use Rattle.explain_records.proofs.cutting.put_cuts.Given as goal

abbrev pub invariant-loop-user : goal.invariant-loop-user
invariant-loop-user l = record {
  written : text_in l.writer ≡ text_in l.initial.writer ++ lines (map (cut_record l.by l.atom) (take l.user-index l.whom));
  between : IsBetween l.writer;
}
