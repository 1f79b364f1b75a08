use Rattle.std.proofs.Common.{Ok, subst}
use Rattle.lines_core.specs.Serving.{EndsReading, traffic_of}
use Rattle.lines_core.proofs.Told.{whole_at}
use Rattle.lines_core.proofs.serving.serve_whole.Goals as goal

pub returns-in-Ok-AtEnd-clause-ends : goal.returns-in-Ok-AtEnd-clause-ends
returns-in-Ok-AtEnd-clause-ends g c =
    let R = g.D.LineServer.answers in
    let over = g.D.LineServer.over in
    let left0 = g.S.Source.left c.args.reader.now in
    let left1 = g.S.Source.left c.answer_whole_lines.new.reader in
    let taken0 = g.W.Sink.taken c.args.writer.now in
    let taken1 = g.W.Sink.taken c.answer_whole_lines.new.writer in
    let feeding = c.answer_whole_lines.new.feeding in
    let start = c.args.server.now in
    let new = c.answer_whole_lines.new.server in
    let ends = subst (λ stop. EndsReading R over (Ok stop) feeding.line feeding.unread start new (traffic_of left0 left1 taken0 taken1)) c.in-Ok-AtEnd.field-0-is c.in-Ok-AtEnd.ensures.ends in
    whole_at R g.met.D.LineServer.too_long over c.whole_ending.result feeding.line start new feeding.unread left0 left1 taken0 taken1
    ends.0 ends.1 ends.2 (rw c.into_line.ensures at c.whole_ending.ensures)
