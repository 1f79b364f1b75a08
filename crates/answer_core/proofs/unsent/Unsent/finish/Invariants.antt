use Rattle.std.proofs.Common.{◌≡◌, false}
use Rattle.base_core.specs.Streams.{Writes}
use Rattle.answer_core.specs.Answers.{SendsMore}
use Rattle.answer_core.specs.Remaining.{rows_to_come}
use Rattle.answer_core.specs.declared.unsent.Progress.TheVariants as progresses
use Rattle.answer_core.proofs.unsent.Unsent.finish.Given as goal

abbrev pub invariant-parts : goal.invariant-parts
invariant-parts g l = record {
  works : g.W.Sink.failed l.writer ≡ false;
  begun : Writes (SendsMore l.initial.unsent (progresses.Part l.unsent)) (g.W.Sink.taken l.initial.writer) (g.W.Sink.taken l.writer);
}

abbrev pub decreases-parts : goal.decreases-parts
decreases-parts g l = rows_to_come l.unsent
