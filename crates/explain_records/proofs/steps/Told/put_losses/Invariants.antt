use Rattle.std.proofs.Common.{take}
use Rattle.export_core.specs.Record.{IsBetween, text_in}
use Rattle.explain_records.specs.Steps.{TellsLoss}
use Rattle.explain_records.proofs.Lines.{TellsSoFar}
use Rattle.explain_records.proofs.steps.Told.put_losses.Given as goal

abbrev pub invariant-loop-life : goal.invariant-loop-life
invariant-loop-life l = record {
  told : TellsSoFar (TellsLoss l.self.past.history.now l.self.past.numbers.now l.self.user l.self.atom) (take l.life-index l.given) (text_in l.initial.writer) (text_in l.writer);
  between : IsBetween l.writer;
}
