use Rattle.std.proofs.Common.{◌≡◌, ◌<◌, true, false, length}
use Rattle.lines_core.specs.Serving.{HasServed, traffic_of}
use Rattle.lines_core.proofs.serving.answer_whole_lines.Given as goal

abbrev pub invariant-loop-feeding : goal.invariant-loop-feeding
invariant-loop-feeding g l = record {
  source : g.S.Source.failed l.reader ≡ false;
  sink : g.W.Sink.failed l.writer ≡ false;
  flushed : g.W.Sink.flushed l.initial.writer ≡ true → g.W.Sink.flushed l.writer ≡ true;
  room : 0 < length l.buffer;
  not_over : g.D.LineServer.over l.initial.server ≡ false → g.D.LineServer.over l.server ≡ false;
  serving : HasServed g.D.LineServer.answers l.feeding.line l.initial.server l.server l.feeding.unread (traffic_of (g.S.Source.left l.initial.reader) (g.S.Source.left l.reader) (g.W.Sink.taken l.initial.writer) (g.W.Sink.taken l.writer));
}

abbrev pub decreases-loop-feeding : goal.decreases-loop-feeding
decreases-loop-feeding g l = l.feeding.unread
