use Rattle.std.proofs.Common.{take}
use Rattle.export_core.specs.Record.{IsBetween, text_in}
use Rattle.explain_records.specs.Steps.{TellsReason}
use Rattle.explain_records.proofs.Lines.{TellsSoFar}
use Rattle.explain_records.proofs.steps.put_reasons.Given as goal

abbrev pub invariant-loop-atom : goal.invariant-loop-atom
invariant-loop-atom l = record {
  told : TellsSoFar (TellsReason l.past.history.now l.past.numbers.now l.user) (take l.atom-index l.atoms) (text_in l.initial.writer) (text_in l.writer);
  between : IsBetween l.writer;
}
