use Rattle.std.proofs.Common.{take}
use Rattle.export_core.specs.Record.{IsBetween, text_in}
use Rattle.explain_records.specs.Cuttings.{TellsCut}
use Rattle.explain_records.proofs.Lines.{TellsSoFar}
use Rattle.explain_records.proofs.cutting.put_all_cuts.Given as goal

abbrev pub invariant-loop-atom : goal.invariant-loop-atom
invariant-loop-atom l = record {
  told : TellsSoFar (TellsCut l.history l.user) (take l.atom-index l.atoms) (text_in l.initial.writer) (text_in l.writer);
  between : IsBetween l.writer;
}
