use Rattle.std.proofs.Common.{Some, slice_get, ap, sym, ◌∙◌}
use Rattle.base_core.specs.Filter.{at_index, cell_meets}
use Rattle.tables_core.proofs.interval.with_condition.Goals as goal

pub returns : goal.returns
returns c = λ row within met.
    c.narrowed.ensures (slice_get row c.args.place) within
    (ap (λ o. cell_meets c.args.condition.now (at_index row o)) (ap Some (sym c.if-at-place.false) ∙ sym c.in-Some.is) ∙ met)
