use Rattle.std.proofs.Common.{◌≡◌, ℤ, Some, true, slice_get, ap, sym, ◌∙◌, rules, SFits, w64, to_z-of_z}
use Rattle.std.specs.Ordering.{int_cmp}
use Rattle.base_core.specs.Filter.{at_index, cell_meets, accepts}
use Rattle.tables_core.proofs.BoundLemmas.{within-narrowed}
use Rattle.tables_core.specs.Bounding.{Admits}
use Rattle.tables_core.proofs.bounds.with_condition.Goals as goal

pub returns : goal.returns
returns c row within met =
    let condition = c.args.condition.now in
    let so_far = c.started_at-so_far.result in
    let fits : SFits w64 c.in-Int.literal = search rules in
    let at : cell_meets condition (slice_get row so_far.place) ≡ true =
    ap (λ o. cell_meets condition (at_index row o)) (ap Some c.if-so_far-place.false ∙ sym c.in-Some.is) ∙ met in
    let kept : (n : ℤ) → Admits so_far n → accepts condition.comparison (int_cmp n c.in-Int.literal) ≡ true → Admits c.narrowed.result n =
    λ n before stands. c.narrowed.ensures.kept n before (ap (λ l. accepts condition.comparison (int_cmp n l)) (to_z-of_z fits) ∙ stands) in
    within-narrowed condition c.in-Int.literal c.in-Int.is so_far c.narrowed.result row c.narrowed.ensures.place kept at (c.started_at-so_far.ensures row within)
