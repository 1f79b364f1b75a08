use Rattle.std.proofs.Common.{ℕ, List, Option, length, flat_map, ap, ◌∙◌, arith}
use Rattle.messages_core.specs.Fields.{value}
use Rattle.messages_core.proofs.Pieces.{row_more, whole_row}
use Rattle.messages_core.proofs.rows.row_size.Goals as goal

pub overflow_add-size : goal.overflow_add-size
overflow_add-size c = omega (arith, c.loop-i.invariant.1, c.value_size-size.ensures.short, c.requires.few)

pub loop-i-preserved : goal.loop-i-preserved
loop-i-preserved c =
    let more = row_more c.args.values.now c.args.formats.now c.loop-i.i c.index-values-i.result c.loop-i-test.true c.requires.same
    c.index-values-i.is in
    let this = c.value_size-size.ensures in
    let so_far = c.loop-i.invariant in
    (omega (arith, more, this.size, so_far.0), omega (arith, this.short, so_far.1))

pub returns-clause-size : goal.returns-clause-size
returns-clause-size c =
    c.loop-i.invariant.0
    ∙ ap (λ (row : List (Option (List ℕ))). length (flat_map value row))
    (whole_row c.args.values.now c.args.formats.now c.loop-i.i c.loop-i-test.false c.requires.same)
