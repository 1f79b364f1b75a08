use Rattle.std.proofs.Common.{◌≡◌, length, arith, subst, sym, ⊎_elim, Ok}
use Rattle.std.specs.Str.Lines.{lines}
use Rattle.std.proofs.KnownBytes.{Consumes-nil}
use Rattle.std.proofs.lemmas.Bool.{cases_lt}
use Rattle.lines_core.specs.Serving.{AnswersInput, WasOpen, EndsReading, EndsTold, traffic_of}
use Rattle.lines_core.proofs.ServeLemmas.{Run-last, Run-nothing, Open-last, Open-nothing, BrokenRun-last}
use Rattle.lines_core.proofs.Told.{told_at}
use Rattle.lines_core.proofs.serving.serve_lines.Goals as goal

pub returns-in-Ok-clause-ends : goal.returns-in-Ok-clause-ends
returns-in-Ok-clause-ends g c =
    let R = g.D.LineServer.answers in
    let law = g.met.D.LineServer.too_long in
    let over = g.D.LineServer.over in
    let left0 = g.S.Source.left c.args.reader.now in
    let left1 = g.S.Source.left c.answer_whole_lines.new.reader in
    let taken0 = g.W.Sink.taken c.args.writer.now in
    let taken1 = g.W.Sink.taken c.answer_whole_lines.new.writer in
    let taken2 = g.W.Sink.taken c.finish.new.writer in
    let feeding = c.answer_whole_lines.new.feeding in
    let line = feeding.line in
    let start = c.args.server.now in
    let old = c.answer_whole_lines.new.server in
    let new = c.finish.new.server in
    let ends = subst (λ stop. EndsReading R over (Ok stop) line feeding.unread start old (traffic_of left0 left1 taken0 taken1)) c.in-Ok-AtEnd.field-0-is c.in-Ok-AtEnd.ensures.ends in
    let unread = feeding.unread in
    let s = ends.0 in
    let h = ends.2 in
    let was_open : WasOpen R over start new s.bytes =
    ⊎_elim
    (λ some. Open-last R law over line start old new unread left0 left1 taken0 taken1 taken2 s h some (c.in-Ok.ensures.last some))
    (λ few. let none : length line ≡ 0 = omega arith in
    Open-nothing R law over line start old new unread left0 left1 taken0 taken1 s h none (c.in-Ok.ensures.empty none).0.0)
    (cases_lt 0 (length line)) in
    let run : AnswersInput R lines start new (traffic_of left0 left1 taken0 taken2) s.bytes =
    ⊎_elim
    (λ some. Run-last R law line start old new unread left0 left1 left1 taken0 taken1 taken2 s (Consumes-nil left1) some (c.in-Ok.ensures.last some))
    (λ few. let none : length line ≡ 0 = omega arith in
    let kept = c.in-Ok.ensures.empty none in
    Run-nothing R law line start old new unread left0 left1 left1 taken0 taken1 taken2 s (Consumes-nil left1) none kept.0.0 kept.0.1)
    (cases_lt 0 (length line)) in
    subst (λ ending. EndsTold R over (Ok ending) start new (traffic_of left0 left1 taken0 taken2)) (sym c.in-Ok.ensures.ended)
    (told_at R over line start old new unread left0 left1 left1 taken0 taken1 taken2 s run ends.1 was_open)

pub returns-in-Err-finish-clause-ends : goal.returns-in-Err-finish-clause-ends
returns-in-Err-finish-clause-ends g c =
    let R = g.D.LineServer.answers in
    let left0 = g.S.Source.left c.args.reader.now in
    let left1 = g.S.Source.left c.answer_whole_lines.new.reader in
    let taken0 = g.W.Sink.taken c.args.writer.now in
    let taken1 = g.W.Sink.taken c.answer_whole_lines.new.writer in
    let feeding = c.answer_whole_lines.new.feeding in
    let line = feeding.line in
    let start = c.args.server.now in
    let old = c.answer_whole_lines.new.server in
    let ends = subst (λ stop. EndsReading R g.D.LineServer.over (Ok stop) line feeding.unread start old (traffic_of left0 left1 taken0 taken1)) c.in-Ok-AtEnd.field-0-is c.in-Ok-AtEnd.ensures.ends in
    BrokenRun-last R g.met.D.LineServer.too_long line start old c.finish.new.server feeding.unread
    left0 left1 left1 taken0 taken1 (g.W.Sink.taken c.finish.new.writer)
    ends.0 (Consumes-nil left1) ends.1 c.in-Err-finish.ensures.broken.0 c.in-Err-finish.ensures.broken.1
