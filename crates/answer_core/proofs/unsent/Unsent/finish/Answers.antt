use Rattle.base_core.proofs.Fronts.{on_err}
use Rattle.answer_core.specs.declared.unsent.Progress.TheVariants as progresses
use Rattle.answer_core.proofs.Going.{breaks_then, writes_then}
use Rattle.answer_core.proofs.unsent.Unsent.finish.Goals as goal

pub returns-in_err-go_on-clause-err : goal.returns-in_err-go_on-clause-err
returns-in_err-go_on-clause-err g c =
    on_err c.from_residual.result
    (breaks_then c.args.self c.parts.unsent (g.W.Sink.taken c.args.writer.now) (g.W.Sink.taken c.parts.writer) (g.W.Sink.taken c.go_on.new.writer)
    c.parts.invariant.begun c.in_err-go_on.ensures.err)

pub returns-in-Whole-clause-ok : goal.returns-in-Whole-clause-ok
returns-in-Whole-clause-ok g c =
    writes_then c.args.self c.parts.unsent (g.W.Sink.taken c.args.writer.now) (g.W.Sink.taken c.parts.writer) (g.W.Sink.taken c.go_on.new.writer)
    progresses.Whole c.parts.invariant.begun (rw c.in-Whole.is at c.in_ok-go_on.ensures.ok)

pub returns-in-Suspended-clause-ok : goal.returns-in-Suspended-clause-ok
returns-in-Suspended-clause-ok g c =
    writes_then c.args.self c.parts.unsent (g.W.Sink.taken c.args.writer.now) (g.W.Sink.taken c.parts.writer) (g.W.Sink.taken c.go_on.new.writer)
    (progresses.Suspended c.in-Suspended.portal) c.parts.invariant.begun (rw c.in-Suspended.is at c.in_ok-go_on.ensures.ok)

pub parts-preserved : goal.parts-preserved
parts-preserved g c = record {
  works = c.in_ok-go_on.ensures.failed;
  begun = writes_then c.args.self c.parts.unsent (g.W.Sink.taken c.args.writer.now) (g.W.Sink.taken c.parts.writer) (g.W.Sink.taken c.go_on.new.writer)
      (progresses.Part c.in-Part.rest) c.parts.invariant.begun (rw c.in-Part.is at c.in_ok-go_on.ensures.ok);
}
