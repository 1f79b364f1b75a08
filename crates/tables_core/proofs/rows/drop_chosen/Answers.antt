use Rattle.std.proofs.Common.{not, length, refl, ap, arith}
use Rattle.std.proofs.lemmas.List.Filters.{length-filter_both}
use Rattle.tables_core.specs.Contents.{satisfies}
use Rattle.tables_core.proofs.rows.drop_chosen.Goals as goal

pub overflow_sub-result : goal.overflow_sub-result
overflow_sub-result c =
    let chosen = satisfies c.new-filter.result.columns.now c.new-filter.result.items.now in
    let both = length-filter_both chosen (λ r. not (chosen r)) (λ r. refl) c.args.rows.now.contents in
    omega (arith, both, ap length c.drop_found.ensures.contents)

pub returns-clause-count : goal.returns-clause-count
returns-clause-count c =
    let chosen = satisfies c.new-filter.result.columns.now c.new-filter.result.items.now in
    let both = length-filter_both chosen (λ r. not (chosen r)) (λ r. refl) c.args.rows.now.contents in
    omega (arith, both, ap length c.drop_found.ensures.contents)
