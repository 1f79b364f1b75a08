use Rattle.std.proofs.lemmas.Result.{on_ok_weaker, IfErr-weaker}
use Rattle.std.specs.Prelude.{None}
use Rattle.parameters_core.specs.Filling.{IsFillFault, ones}
use Rattle.parameters_core.specs.Putting.{IsFilledByFault}
use Rattle.parameters_core.proofs.Fills.{filled_ones, fault_ones}
use Rattle.parameters_core.proofs.filling.fill_with_ones.Goals as goal

pub returns : goal.returns
returns c =
    let text = c.args.text.now in
    record {
      filled = on_ok_weaker c.fill_by.result (λ f. filled_ones text c.fill_by.new.line.items f) c.fill_by.ensures.filled;
      short = c.fill_by.ensures.short;
      faulty = IfErr-weaker c.fill_by.result (IsFilledByFault text None) (IsFillFault text ones) (λ e f. fault_ones text e f) c.fill_by.ensures.faulty;
    }
