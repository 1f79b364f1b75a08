use Rattle.lines_core.proofs.Told.{told_ends}
use Rattle.lines_core.proofs.serving.serve.Goals as goal

pub returns-in-Ok-clause-ends : goal.returns-in-Ok-clause-ends
returns-in-Ok-clause-ends g c =
    told_ends g.D.LineServer.answers g.D.LineServer.over _ c.args.server.now c.serve_told.new.server _ c.in-Ok.ensures.ends
