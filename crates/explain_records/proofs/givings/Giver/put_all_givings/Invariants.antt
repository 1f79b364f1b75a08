use Rattle.std.proofs.Common.{◌≡◌, ◌++◌, take}
use Rattle.std.specs.List.{flat_map}
use Rattle.export_core.specs.Record.{IsBetween, text_in}
use Rattle.explain_records.specs.Givings.{givings_of}
use Rattle.explain_records.specs.Telling.{lines}
use Rattle.explain_records.proofs.givings.Giver.put_all_givings.Given as goal

abbrev pub invariant-loop-atom : goal.invariant-loop-atom
invariant-loop-atom l = record {
  written : text_in l.writer ≡ text_in l.initial.writer ++ lines (flat_map (givings_of l.self.history.now l.self.by) (take l.atom-index l.atoms));
  between : IsBetween l.writer;
}
