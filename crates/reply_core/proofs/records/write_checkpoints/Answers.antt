use Rattle.std.proofs.Common.{get_or, flat_map, refl}
use Rattle.base_core.proofs.Fronts.{text-broken}
use Rattle.system_core.specs.declared.machine.event.Checkpoint.TheVariants as checkpoints
use Rattle.reply_core.specs.Texts.{checkpoint_line}
use Rattle.reply_core.proofs.Pieces.{one_more, broken_at}
use Rattle.reply_core.proofs.records.write_checkpoints.Goals as goal

pub loop-checkpoint-preserved : goal.loop-checkpoint-preserved
loop-checkpoint-preserved g c =
    let none = checkpoints.Kept 0 (record { 0 = 0 }) in
    record {
      works = c.in_ok-write_checkpoint.ensures.0;
      written = one_more checkpoint_line c.args.entries.now c.loop-checkpoint.checkpoint-index none (get_or c.args.entries.now c.loop-checkpoint.checkpoint-index none)
          (g.W.Sink.taken c.args.writer.now) (g.W.Sink.taken c.loop-checkpoint.writer) (g.W.Sink.taken c.write_checkpoint.new.writer)
          c.loop-checkpoint-test.true refl c.loop-checkpoint.invariant.written c.in_ok-write_checkpoint.ensures.1;
    }

pub returns-in_err-write_checkpoint : goal.returns-in_err-write_checkpoint
returns-in_err-write_checkpoint g c =
    let none = checkpoints.Kept 0 (record { 0 = 0 }) in
    text-broken g.W.Sink.failed g.W.Sink.taken _ _ (flat_map checkpoint_line c.args.entries.now) c.from_residual.result c.from_residual.ensures.0 (
      c.in_err-write_checkpoint.ensures.0,
      broken_at checkpoint_line c.args.entries.now c.loop-checkpoint.checkpoint-index none (get_or c.args.entries.now c.loop-checkpoint.checkpoint-index none)
          (g.W.Sink.taken c.args.writer.now) (g.W.Sink.taken c.loop-checkpoint.writer) (g.W.Sink.taken c.write_checkpoint.new.writer)
          c.loop-checkpoint-test.true refl c.loop-checkpoint.invariant.written c.in_err-write_checkpoint.ensures.1,
    )
