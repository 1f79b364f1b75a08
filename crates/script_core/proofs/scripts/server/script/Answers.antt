use Rattle.std.proofs.Common.{refl, subst}
use Rattle.std.proofs.KnownBytes.{Keeps-refl}
use Rattle.lines_core.specs.Serving.{traffic_of}
use Rattle.system_core.specs.World.{World, opening}
use Rattle.script_core.specs.Keeping.{EndsKeptFrom}
use Rattle.script_core.proofs.scripts.server.script.Goals as goal

pub returns-in_default-clause-ends : goal.returns-in_default-clause-ends
returns-in_default-clause-ends g c =
    (c.full-limits.result, c.full-limits.ensures, (c.requires.settled, opening c.args.chunk c.full-limits.result, (refl, Keeps-refl _, Keeps-refl _)))

pub returns-clause-ends : goal.returns-clause-ends
returns-clause-ends g c =
    let K = g.K.Keeper in
    let From = λ (start : World). EndsKeptFrom K start c.script_from.result c.args.keeper.now c.script_from.new.keeper
    (traffic_of (g.S.Source.left c.args.reader.now) (g.S.Source.left c.script_from.new.reader) (g.W.Sink.taken c.args.writer.now) (g.W.Sink.taken c.script_from.new.writer)) in
    (c.full-limits.result, c.full-limits.ensures, subst From c.in-Ok.ensures c.script_from.ensures.ends)
