use Rattle.std.specs.List.{flat_map}
use Rattle.base_core.proofs.Fronts.{text-broken}
use Rattle.reply_core.specs.Texts.{value_text}
use Rattle.reply_core.proofs.Pieces.{one_more, broken_at}
use Rattle.reply_core.proofs.records.write_values.Goals as goal

pub loop-value-preserved : goal.loop-value-preserved
loop-value-preserved g c = record {
  works = c.in_ok-write_further.ensures.0;
  written = one_more value_text c.args.values.now c.loop-value.value-index c.value-item.result c.value-item.result (g.W.Sink.taken c.args.writer.now) (g.W.Sink.taken c.loop-value.writer) (g.W.Sink.taken c.write_further.new.writer)
      c.loop-value-test.true c.value-item.is c.loop-value.invariant.written c.in_ok-write_further.ensures.1;
}

pub returns-in_err-write_further : goal.returns-in_err-write_further
returns-in_err-write_further g c =
    text-broken g.W.Sink.failed g.W.Sink.taken _ _ (flat_map value_text c.args.values.now) c.from_residual.result c.from_residual.ensures.0 (
      c.in_err-write_further.ensures.0,
      broken_at value_text c.args.values.now c.loop-value.value-index c.value-item.result c.value-item.result (g.W.Sink.taken c.args.writer.now) (g.W.Sink.taken c.loop-value.writer) (g.W.Sink.taken c.write_further.new.writer)
          c.loop-value-test.true c.value-item.is c.loop-value.invariant.written c.in_err-write_further.ensures.1,
    )
