use Rattle.recovery_core.proofs.Passed.{further_still, known_on, known_empty, known_out, not_listed}
use Rattle.recovery_core.proofs.pieces.pieces_read.Goals as goal

pub returns-then-read-at-clause-reads : goal.returns-then-read-at-clause-reads
returns-then-read-at-clause-reads g c =
    known_empty (g.F.Folder.state c.args.folder.now) c.args.read c.loop-alloc.read c.loop-alloc.invariant.up_to c.in_ok-read.read c.loop-alloc.invariant.sound c.in_ok-read.ensures.goes_on c.args.points.now c.if-read-at.true c.in_ok-read.ensures.reads

pub returns-then-read-at-clause-further : goal.returns-then-read-at-clause-further
returns-then-read-at-clause-further g c = further_still c.args.read c.loop-alloc.read c.in_ok-read.read c.loop-alloc.invariant.further c.in_ok-read.ensures.goes_on.further

pub loop-alloc-preserved : goal.loop-alloc-preserved
loop-alloc-preserved g c = record {
  sound = c.in_ok-read.ensures.sound;
  further = further_still c.args.read c.loop-alloc.read c.in_ok-read.read c.loop-alloc.invariant.further c.in_ok-read.ensures.goes_on.further;
  up_to = known_on (g.F.Folder.state c.args.folder.now) c.args.read c.loop-alloc.read c.loop-alloc.invariant.up_to c.in_ok-read.read c.loop-alloc.invariant.sound c.in_ok-read.ensures.goes_on c.in_ok-read.ensures.reads;
}

pub returns-clause-reads : goal.returns-clause-reads
returns-clause-reads g c =
    known_out (g.F.Folder.state c.args.folder.now) c.args.read c.loop-alloc.read c.loop-alloc.invariant.up_to c.args.points.now (not_listed c.args.points.now c.loop-alloc.read.recovered.at c.loop-alloc-test.ensures.cases)
