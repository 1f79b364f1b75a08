use Rattle.std.proofs.Common.{◌^◌, arith}
use Rattle.messages_core.proofs.Pieces.{item_fits}
use Rattle.messages_core.proofs.writing.size_of_all.Goals as goal

pub size-size-requires : goal.size-size-requires
size-size-requires g c =
    omega (
      arith,
      item_fits g.F.Field.spelled c.args.fields.now c.loop-field.field-index c.field-item.result c.field-item.result (2 ^ 31)
          c.loop-field-test.true c.field-item.is c.requires,
    )

pub overflow_add-size : goal.overflow_add-size
overflow_add-size g c =
    let small = item_fits g.F.Field.spelled c.args.fields.now c.loop-field.field-index c.field-item.result c.field-item.result (2 ^ 31)
    c.loop-field-test.true c.field-item.is c.requires in
    let so_far = c.loop-field.invariant in
    let this = c.size-size.ensures in
    omega (arith, small, so_far, this)
