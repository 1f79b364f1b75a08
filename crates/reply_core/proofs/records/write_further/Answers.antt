use Rattle.std.proofs.Common.{[], ◌∷◌, ◌++◌}
use Rattle.base_core.proofs.Fronts.{front-first, text-broken, text-then}
use Rattle.export_core.specs.Record.{comma, field_text, value_field}
use Rattle.reply_core.proofs.records.write_further.Goals as goal

pub returns-in_err-write_all : goal.returns-in_err-write_all
returns-in_err-write_all g c =
    let r = c.in_err-write_all.ensures in
    let field = field_text (value_field c.args.value.now) in
    text-broken g.W.Sink.failed g.W.Sink.taken _ _ (comma ∷ field) c.from_residual.result c.from_residual.ensures.0
    (r.0, front-first _ _ (comma ∷ []) field r.1)

pub returns : goal.returns
returns g c =
    text-then g.W.Sink.failed g.W.Sink.taken _ _ _ (comma ∷ []) (field_text (value_field c.args.value.now)) c.write_value.result
    c.in_ok-write_all.ensures.1 c.write_value.ensures
