use Rattle.std.proofs.Common.{flat_map}
use Rattle.base_core.proofs.Fronts.{text-broken}
use Rattle.messages_core.proofs.Pieces.{broken_at}
use Rattle.answer_core.proofs.told.write_rows.Goals as goal

pub returns-in_err-write_row : goal.returns-in_err-write_row
returns-in_err-write_row g c =
    let told = g.T.Told.told c.args.formats.now in
    text-broken g.W.Sink.failed g.W.Sink.taken _ _ (flat_map told c.args.items.now) c.from_residual.result c.from_residual.ensures.0 (
      c.in_err-write_row.ensures.0,
      broken_at told c.args.items.now c.loop-item.item-index c.item-item.result c.item-item.result c.loop-item-test.true c.item-item.is
          (g.W.Sink.taken c.args.writer.now) (g.W.Sink.taken c.loop-item.writer) (g.W.Sink.taken c.write_row.new.writer)
          c.loop-item.invariant.written c.in_err-write_row.ensures.1,
    )
