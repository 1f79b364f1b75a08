use Rattle.std.proofs.Common.{◌≡◌, ◌⊎◌, ℕ, true, false, List, [], ◌++◌, length, take}
use Rattle.lines_core.specs.declared.line.TheConstants.{KEPT_BYTES}
use Rattle.lines_core.specs.Lines.{NoFeed}
use Rattle.lines_core.specs.Serving.{AnswersPiece}
use Rattle.lines_core.proofs.serving.feed.Given as goal

-- what came before the rest of the piece was fed
abbrev pub invariant-loop-end : goal.invariant-loop-end
invariant-loop-end g l =
    (g.W.Sink.failed l.writer ≡ false)
    × (g.W.Sink.flushed l.initial.writer ≡ true → (l.line ≡ []) ⊎ (g.W.Sink.flushed l.writer ≡ true))
    × ((rest : List ℕ) → NoFeed rest → l.initial.line ≡ take KEPT_BYTES rest → (done : List ℕ) × (done ++ l.left ≡ l.piece)
    × AnswersPiece g.D.LineServer.answers rest done l.line l.initial.server l.server (g.W.Sink.taken l.initial.writer) (g.W.Sink.taken l.writer))

abbrev pub decreases-loop-end : goal.decreases-loop-end
decreases-loop-end g l = length l.left
