use Rattle.std.proofs.Common.{◌≡◌, ◌++◌, take}
use Rattle.export_core.specs.Record.{IsBetween, text_in}
use Rattle.explain_records.specs.Telling.{lines}
use Rattle.explain_records.specs.Steps.{loss_steps}
use Rattle.explain_records.proofs.steps.Told.put_way.Given as goal

abbrev pub invariant-loop-life : goal.invariant-loop-life
invariant-loop-life l = record {
  step : l.step ≡ l.life-index;
  written : text_in l.writer ≡ text_in l.initial.writer ++ lines (loss_steps l.self.past.history.now l.self.past.numbers.now l.self.user l.self.atom l.way.given l.way.fell (take l.life-index l.line));
  between : IsBetween l.writer;
}
