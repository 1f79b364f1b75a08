use Rattle.std.proofs.Common.{[], ◌∷◌, ◌++◌}
use Rattle.base_core.proofs.Fronts.{front-first, text-broken, text-then}
use Rattle.export_core.specs.Record.{quote}
use Rattle.reply_core.proofs.records.write_run.Goals as goal

pub returns-in_err-write_all : goal.returns-in_err-write_all
returns-in_err-write_all g c =
    let r = c.in_err-write_all.ensures in
    let run = c.args.run.now in
    text-broken g.W.Sink.failed g.W.Sink.taken _ _ (run ++ quote ∷ []) c.from_residual.result c.from_residual.ensures.0
    (r.0, front-first _ _ run (quote ∷ []) r.1)

pub returns : goal.returns
returns g c =
    text-then g.W.Sink.failed g.W.Sink.taken _ _ _ c.args.run.now (quote ∷ []) c.write_all-2.result
    c.in_ok-write_all.ensures.1 c.write_all-2.ensures
