use Rattle.std.proofs.Common.{◌+◌, take, drop, subst, sym, ◌∙◌, append_assoc, arith, ◌∷◌, []}
use Rattle.lines_core.specs.Lines.{NoFeed}
use Rattle.lines_core.specs.Serving.{AnswersPart}
use Rattle.base_core.proofs.Fronts.{on_err}
use Rattle.lines_core.proofs.FeedLemmas.{no_feed, no_feed_before, at_feed, to_feed}
use Rattle.lines_core.proofs.Parts.{Part-line, Part-broken, Part-open, not_open}
use Rattle.std.proofs.lemmas.List.{take_all}
use Rattle.lines_core.proofs.serving.feed_line.Goals as goal

pub returns-in_default-clause-ok : goal.returns-in_default-clause-ok
returns-in_default-clause-ok g c = λ rest h e.
    let piece = c.args.piece.now in
    subst (λ p. AnswersPart g.D.LineServer.answers rest p c.extend.new.self c.args.server.now c.args.server.now (g.W.Sink.taken c.args.writer.now) (g.W.Sink.taken c.args.writer.now)) (sym (take_all _ piece (omega arith)))
    (Part-open g.D.LineServer.answers g.met.D.LineServer.too_long rest c.args.line.now piece c.extend.new.self c.args.server.now (g.W.Sink.taken c.args.writer.now) e (no_feed piece c.in_default.ensures) c.extend.ensures)

pub returns-in_err-answer_line-clause-err : goal.returns-in_err-answer_line-clause-err
returns-in_err-answer_line-clause-err g c = on_err c.from_residual.result (λ rest h e.
    let piece = c.args.piece.now in
    let end = c.in-Some.end in
    Part-broken g.D.LineServer.answers g.met.D.LineServer.too_long rest (take end piece) (drop (end + 1) piece) c.args.line.now piece
    c.args.server.now c.answer_line.new.server (g.W.Sink.taken c.args.writer.now) (g.W.Sink.taken c.answer_line.new.writer) e
    (no_feed_before piece end c.in-Some.ensures)
    (at_feed piece end c.in-Some.ensures ∙ append_assoc (take end piece) (10 ∷ []) (drop (end + 1) piece))
    c.in_err-answer_line.ensures.text.1)

-- no line feed is in what was taken, which has one
pub returns-clause-all : goal.returns-clause-all
returns-clause-all g c = λ h.
    let piece = c.args.piece.now in
    let end = c.in-Some.end in
    absurd (not_open (take end piece) (subst NoFeed (to_feed piece end c.in-Some.ensures) h))

pub returns-clause-ok : goal.returns-clause-ok
returns-clause-ok g c = λ rest h e.
    let piece = c.args.piece.now in
    let end = c.in-Some.end in
    Part-line g.D.LineServer.answers g.met.D.LineServer.too_long rest (take end piece) c.args.line.now (take (end + 1) piece) c.answer_line.new.line
    c.args.server.now c.answer_line.new.server (g.W.Sink.taken c.args.writer.now) (g.W.Sink.taken c.answer_line.new.writer) e
    (no_feed_before piece end c.in-Some.ensures) (to_feed piece end c.in-Some.ensures) c.in_ok-answer_line.ensures.cleared
    c.in_ok-answer_line.ensures.text.1
