use Rattle.std.proofs.Common.{arith}
use Rattle.std.proofs.lemmas.Result.{on_ok_weaker, IfErr-weaker}
use Rattle.std.specs.Prelude.{Some}
use Rattle.parameters_core.specs.Filling.{IsFillFault}
use Rattle.parameters_core.specs.Putting.{IsFilledByFault}
use Rattle.parameters_core.proofs.Fills.{enough_by, filled_with, fault_with}
use Rattle.parameters_core.proofs.filling.fill.Goals as goal

pub fill_by-requires : goal.fill_by-requires
fill_by-requires c = enough_by c.args.text.now c.args.values.now c.greatest_place-greatest.result c.greatest_place-greatest.ensures (omega arith)

pub returns : goal.returns
returns c =
    let text = c.args.text.now in
    let vs = c.args.values.now in
    let enough = enough_by text vs c.greatest_place-greatest.result c.greatest_place-greatest.ensures (omega arith) in
    record {
      filled = on_ok_weaker c.fill_by.result (λ f. filled_with text vs c.fill_by.new.line.items enough f) c.fill_by.ensures.filled;
      short = c.fill_by.ensures.short;
      faulty = IfErr-weaker c.fill_by.result (IsFilledByFault text (Some vs)) (IsFillFault text vs) (λ e f. fault_with text vs e enough f) c.fill_by.ensures.faulty;
    }
