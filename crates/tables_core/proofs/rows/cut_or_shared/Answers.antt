use Rattle.std.proofs.Common.{◌≡◌, length, sym, ap, ◌∙◌, arith}
use Rattle.std.proofs.lemmas.Grind.{common_steps}
use Rattle.std.proofs.lemmas.Result.{IfOk-weaker}
use Rattle.tables_core.proofs.ResolvedLemmas.{cut_to_itself}
use Rattle.tables_core.proofs.rows.cut_or_shared.Goals as goal

pub returns-then-items-len : goal.returns-then-items-len
returns-then-items-len c =
    let names = c.args.names.now.items.now in
    let same : length names ≡ length c.args.row.now.values = grind (arith, common_steps) in
    let whole = cut_to_itself c.args.names.now.columns.now names c.args.row.now.values (c.requires c.if-in_order.true) same in
    IfOk-weaker c.try_twin.result _ _ (λ copy is. ap (λ row. row.values) is ∙ sym whole) c.try_twin.ensures
