use Rattle.std.proofs.Common.{◌+◌, [], ◌∷◌, ◌++◌, take, drop, sym, subst, refl, inl, inr}
use Rattle.std.specs.Str.Lines.{strip_carriage_return}
use Rattle.lines_core.specs.declared.line.TheConstants.{KEPT_BYTES}
use Rattle.lines_core.specs.Serving.{AnswersPiece}
use Rattle.base_core.specs.Streams.{Writes, WritesFrontOf}
use Rattle.base_core.proofs.Fronts.{on_err}
use Rattle.lines_core.proofs.FeedLemmas.{Feeds-none, Feeds-line, Breaks-line, Feeds-open, Feeds-kept, Breaks-flush, split_feed, behind_feed, no_feed, no_feed_before}
use Rattle.lines_core.proofs.serving.feed.Goals as goal

pub loop-end-init : goal.loop-end-init
loop-end-init g c = let R = g.D.LineServer.answers in let law = g.met.D.LineServer.too_long in (c.requires, inr, λ rest h e. ([], refl, Feeds-none R law rest _ _ _ h e))

pub returns-in_err-answer_line-clause-err : goal.returns-in_err-answer_line-clause-err
returns-in_err-answer_line-clause-err g c = on_err c.from_residual.result (λ rest h e.
    let R = g.D.LineServer.answers in
    let law = g.met.D.LineServer.too_long in
    let fed = c.loop-end.invariant.2 rest h e in
    let left = c.loop-end.left.now in
    let end = c.in-Some.end in
    let line = take KEPT_BYTES (c.loop-end.line ++ take end left) in
    let before = g.W.Sink.taken c.args.writer.now in
    let between = g.W.Sink.taken c.loop-end.writer in
    let after = g.W.Sink.taken c.answer_line.new.writer in
    Breaks-line R law rest fed.0 (take end left) c.loop-end.line line
    c.args.server.now c.loop-end.server c.answer_line.new.server (drop (end + 1) left) c.args.piece.now before between after
    fed.2 (no_feed_before left end c.in-Some.ensures) refl
    (subst (λ front. WritesFrontOf (λ text. R c.loop-end.server (strip_carriage_return (take KEPT_BYTES (c.loop-end.line ++ front))) text c.answer_line.new.server) between after) c.split_at.ensures.front c.in_err-answer_line.ensures.text.1)
    (sym (split_feed fed.0 left c.args.piece.now end c.in-Some.ensures fed.1)))

pub loop-end-preserved : goal.loop-end-preserved
loop-end-preserved g c = (
  c.in_ok-answer_line.ensures.text.0,
  λ _. inl c.in_ok-answer_line.ensures.cleared,
  λ rest h e.
      let R = g.D.LineServer.answers in
      let law = g.met.D.LineServer.too_long in
      let fed = c.loop-end.invariant.2 rest h e in
      let left = c.loop-end.left.now in
      let end = c.in-Some.end in
      let line = take KEPT_BYTES (c.loop-end.line ++ take end left) in
      let before = g.W.Sink.taken c.args.writer.now in
      let between = g.W.Sink.taken c.loop-end.writer in
      let after = g.W.Sink.taken c.answer_line.new.writer in
      let done = fed.0 ++ (take end left ++ 10 ∷ []) in (
        done,
        behind_feed fed.0 left c.split_at.result.1.now c.args.piece.now end c.in-Some.ensures c.split_at.ensures.back fed.1,
        subst (λ k. AnswersPiece R rest done k c.args.server.now c.answer_line.new.server before after) (sym c.in_ok-answer_line.ensures.cleared)
            (Feeds-line R law rest fed.0 (take end left) c.loop-end.line line
            c.args.server.now c.loop-end.server c.answer_line.new.server before between after
            fed.2 (no_feed_before left end c.in-Some.ensures) refl
            (subst (λ front. Writes (λ text. R c.loop-end.server (strip_carriage_return (take KEPT_BYTES (c.loop-end.line ++ front))) text c.answer_line.new.server) between after) c.split_at.ensures.front c.in_ok-answer_line.ensures.text.1)),
      ),
)

pub returns-clause-ok : goal.returns-clause-ok
returns-clause-ok g c = λ rest h e.
    let R = g.D.LineServer.answers in
    let law = g.met.D.LineServer.too_long in
    let fed = c.loop-end.invariant.2 rest h e in
    let before = g.W.Sink.taken c.args.writer.now in
    let between = g.W.Sink.taken c.loop-end.writer in
    let after = g.W.Sink.taken c.flush_between_lines.new.writer in
    let open_fed = Feeds-open R law rest fed.0 c.loop-end.left.now c.loop-end.line c.extend.new.self c.args.server.now c.loop-end.server before between
    fed.2 (no_feed c.loop-end.left.now c.in_default.ensures) c.extend.ensures in
    Feeds-kept R law rest c.args.piece.now c.extend.new.self c.args.server.now c.loop-end.server before between after
    (subst (λ x. AnswersPiece R rest x c.extend.new.self c.args.server.now c.loop-end.server before between) fed.1 open_fed) c.flush_between_lines.ensures.taken

pub returns-in_err-flush_between_lines-clause-err : goal.returns-in_err-flush_between_lines-clause-err
returns-in_err-flush_between_lines-clause-err g c = on_err c.from_residual-in_err-flush_between_lines.result (λ rest h e.
    let R = g.D.LineServer.answers in
    let law = g.met.D.LineServer.too_long in
    let fed = c.loop-end.invariant.2 rest h e in
    Breaks-flush R law rest fed.0 c.loop-end.left.now c.args.piece.now c.loop-end.line c.args.server.now c.loop-end.server
    (g.W.Sink.taken c.args.writer.now) (g.W.Sink.taken c.loop-end.writer) (g.W.Sink.taken c.flush_between_lines.new.writer)
    fed.2 c.in_err-flush_between_lines.ensures.err c.flush_between_lines.ensures.taken fed.1)
