use Rattle.std.proofs.Common.{List, take, ap, ◌∙◌, arith}
use Rattle.base_core.specs.declared.value.Value.{Value}
use Rattle.base_core.proofs.Fronts.{text-same}
use Rattle.messages_core.specs.Rows.{data_row, row_values}
use Rattle.answer_core.specs.RowTexts.{table_row}
use Rattle.answer_core.proofs.RowLemmas.{row_values-cut}
use Rattle.answer_core.proofs.told.RowTold.write_row.Goals as goal

pub returns : goal.returns
returns g c =
    let fs = c.args.formats.now in
    let vs = c.as_slice-values.result.now in
    let n = c.min-count.result in
    text-same g.W.Sink.failed g.W.Sink.taken _ _ (data_row (row_values (take n vs) (take n fs))) (table_row fs c.args.self.now) c.write_row.result
    (ap data_row (row_values-cut vs fs n (omega (arith, c.min-count.ensures)) ∙ ap (λ (v : List Value). row_values v fs) c.as_slice-values.ensures))
    c.write_row.ensures
