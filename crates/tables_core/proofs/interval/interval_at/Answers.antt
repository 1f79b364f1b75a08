use Rattle.std.proofs.Common.{get_or, sym, ap, ◌∙◌, arith}
use Rattle.std.proofs.lemmas.Bool.{and_parts}
use Rattle.std.proofs.lemmas.List.Folds.{list_all_more}
use Rattle.base_core.specs.Filter.{meets, at_index, cell_meets}
use Rattle.tables_core.proofs.interval.interval_at.Goals as goal

pub loop-at-preserved : goal.loop-at-preserved
loop-at-preserved c row met =
    let items = c.args.conditions.now.items.now in
    let item = c.condition-item.result in
    let test = meets c.args.conditions.now.columns.now row in
    let same = c.condition-item.is ∙ ap (λ l. get_or l c.loop-at.at item) c.items-condition-items.ensures in
    let parts = and_parts _ _ (sym (list_all_more test items c.loop-at.at item (grind (arith, c.loop-at-test.true, c.items-condition-items.ensures))) ∙ met) in
    c.with_condition-interval.ensures row (c.loop-at.invariant row parts.0)
    (ap (λ o. cell_meets item (at_index row o)) c.index_of.ensures ∙ ap test same ∙ parts.1)
