use Rattle.std.proofs.Common.{◌≡◌, ◌++◌, take}
use Rattle.export_core.specs.Record.{IsBetween, text_in}
use Rattle.explain_records.specs.Telling.{lines}
use Rattle.explain_records.specs.Steps.{chain_steps}
use Rattle.explain_records.proofs.steps.Told.put_chain.Given as goal

abbrev pub invariant-loop-grant : goal.invariant-loop-grant
invariant-loop-grant l = record {
  step : l.step ≡ l.grant-index;
  written : text_in l.writer ≡ text_in l.initial.writer ++ lines (chain_steps l.self.past.numbers.now l.self.user l.self.atom l.given (take l.grant-index l.chain));
  between : IsBetween l.writer;
}
