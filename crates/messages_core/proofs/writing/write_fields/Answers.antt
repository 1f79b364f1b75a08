use Rattle.std.proofs.Common.{◌^◌, flat_map, arith}
use Rattle.base_core.proofs.Fronts.{text-broken}
use Rattle.messages_core.proofs.Pieces.{item_fits, broken_at}
use Rattle.messages_core.proofs.writing.write_fields.Goals as goal

pub write-requires-clause-short : goal.write-requires-clause-short
write-requires-clause-short g c =
    omega (
      arith,
      item_fits g.F.Field.spelled c.args.fields.now c.loop-field.field-index c.field-item.result c.field-item.result (2 ^ 31)
          c.loop-field-test.true c.field-item.is c.requires.short,
    )

pub returns-in_err-write : goal.returns-in_err-write
returns-in_err-write g c =
    text-broken g.W.Sink.failed g.W.Sink.taken _ _ (flat_map g.F.Field.spelled c.args.fields.now) c.from_residual.result c.from_residual.ensures.0 (
      c.in_err-write.ensures.0,
      broken_at g.F.Field.spelled c.args.fields.now c.loop-field.field-index c.field-item.result c.field-item.result c.loop-field-test.true c.field-item.is
          (g.W.Sink.taken c.args.writer.now) (g.W.Sink.taken c.loop-field.writer) (g.W.Sink.taken c.write.new.writer)
          c.loop-field.invariant.written c.in_err-write.ensures.1,
    )
