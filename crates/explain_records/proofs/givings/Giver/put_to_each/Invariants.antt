use Rattle.std.proofs.Common.{◌≡◌, ◌++◌, take}
use Rattle.std.specs.List.{flat_map}
use Rattle.export_core.specs.Record.{IsBetween, text_in}
use Rattle.explain_records.specs.Givings.{giving_records}
use Rattle.explain_records.specs.Telling.{lines}
use Rattle.explain_records.proofs.givings.Giver.put_to_each.Given as goal

abbrev pub invariant-loop-user : goal.invariant-loop-user
invariant-loop-user l = record {
  written : text_in l.writer ≡ text_in l.initial.writer ++ lines (flat_map (giving_records l.self.history.now l.self.by l.atom) (take l.user-index l.users));
  between : IsBetween l.writer;
}
