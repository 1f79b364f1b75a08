use Rattle.std.proofs.Common.{[], ◌∷◌, ◌++◌, flat_map}
use Rattle.base_core.proofs.Fronts.{front-first, front-second, text-broken, text-then}
use Rattle.export_core.specs.Record.{doubled_byte, quote}
use Rattle.reply_core.proofs.records.write_quoted.Goals as goal

pub returns-in_err-write_all : goal.returns-in_err-write_all
returns-in_err-write_all g c =
    let r = c.in_err-write_all.ensures in
    let behind = flat_map doubled_byte c.args.text.now ++ quote ∷ [] in
    text-broken g.W.Sink.failed g.W.Sink.taken _ _ (quote ∷ behind) c.from_residual.result c.from_residual.ensures.0
    (r.0, front-first _ _ (quote ∷ []) behind r.1)

pub returns-in_err-write_doubled : goal.returns-in_err-write_doubled
returns-in_err-write_doubled g c =
    let r = c.in_err-write_doubled.ensures in
    let doubled = flat_map doubled_byte c.args.text.now in
    text-broken g.W.Sink.failed g.W.Sink.taken _ _ (quote ∷ (doubled ++ quote ∷ [])) c.from_residual-in_err-write_doubled.result c.from_residual-in_err-write_doubled.ensures.0
    (r.0, front-second _ _ _ (quote ∷ []) (doubled ++ quote ∷ []) c.in_ok-write_all.ensures.1 (front-first _ _ doubled (quote ∷ []) r.1))

pub returns : goal.returns
returns g c =
    let doubled = flat_map doubled_byte c.args.text.now in
    text-then g.W.Sink.failed g.W.Sink.taken _ _ _ (quote ∷ []) (doubled ++ quote ∷ []) c.write_all-2.result c.in_ok-write_all.ensures.1
    (text-then g.W.Sink.failed g.W.Sink.taken _ _ _ doubled (quote ∷ []) c.write_all-2.result c.in_ok-write_doubled.ensures.1 c.write_all-2.ensures)
