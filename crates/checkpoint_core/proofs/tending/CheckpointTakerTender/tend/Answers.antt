use Rattle.desk_core.specs.Guarded.{origin_of}
use Rattle.session_core.specs.Tending.{untended}
use Rattle.session_core.proofs.Tended.{tends_watches}
use Rattle.checkpoint_core.proofs.Passing.{tended_on}
use Rattle.checkpoint_core.proofs.tending.CheckpointTakerTender.tend.Goals as goal

pub loop-init : goal.loop-init
loop-init g c = (c.requires.pass, untended)

pub checkpoint_taken-taken-requires-clause-begins : goal.checkpoint_taken-taken-requires-clause-begins
checkpoint_taken-taken-requires-clause-begins g c =
    g.met.A.Archive.still c.args.self.now.archive c.args.pass.now.seen c.loop.pass.seen (origin_of c.args.desk.now) (tends_watches c.args.desk.now c.args.pass.now c.loop.pass c.loop.invariant.1).seen c.requires.begins

pub loop-preserved-then-count-next : goal.loop-preserved-then-count-next
loop-preserved-then-count-next g c = tended_on c.args.desk.now c.args.pass.now c.loop.pass c.checkpoint_taken-taken.new.pass c.loop.invariant c.checkpoint_taken-taken.ensures
