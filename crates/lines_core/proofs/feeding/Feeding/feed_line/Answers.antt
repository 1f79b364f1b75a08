use Rattle.std.proofs.Common.{sym, take}
use Rattle.std.proofs.lemmas.List.{take_all}
use Rattle.lines_core.specs.declared.line.TheConstants.{KEPT_BYTES}
use Rattle.lines_core.proofs.FeedLemmas.{kept_clean}
use Rattle.lines_core.proofs.Parts.{part_is_piece, takes_some}
use Rattle.lines_core.proofs.feeding.Feeding.feed_line.Goals as goal

pub invariant_of-self-2 : goal.invariant_of-self-2
invariant_of-self-2 g c =
    let line = c.self.inside.line in
    let clean = c.self.invariant in
    let part = c.in-Ok.ensures.ok line clean.0 (sym (take_all KEPT_BYTES line clean.1)) in
    let fed = part_is_piece g.D.LineServer.answers line (take c.in-Ok.taken c.args.piece.now) c.feed_line.new.line c.args.server.now c.feed_line.new.server
    (g.W.Sink.taken c.args.writer.now) (g.W.Sink.taken c.feed_line.new.writer) part clean.0 in
    kept_clean fed.now c.feed_line.new.line fed.kept_is fed.cut.open_rest

pub returns-clause-some : goal.returns-clause-some
returns-clause-some g c = takes_some c.in-Ok.taken c.args.piece.now c.in-Ok.ensures.all
