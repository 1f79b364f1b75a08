use Rattle.std.proofs.Common.{◌++◌, length}
use Rattle.base_core.proofs.Fronts.{front-first, text-broken, text-then}
use Rattle.messages_core.specs.Fields.{int32}
use Rattle.messages_core.proofs.rows.write_value.Goals as goal

pub returns-in_err-write_all : goal.returns-in_err-write_all
returns-in_err-write_all g c =
    let bytes = c.args.bytes.now in
    text-broken g.W.Sink.failed g.W.Sink.taken _ _ (int32 (length bytes) ++ bytes) c.from_residual.result c.from_residual.ensures.0
    (c.in_err-write_all.ensures.0, front-first _ _ (int32 (length bytes)) bytes (rw c.to_be_bytes.ensures at c.in_err-write_all.ensures.1))

pub returns : goal.returns
returns g c =
    let bytes = c.args.bytes.now in
    text-then g.W.Sink.failed g.W.Sink.taken _ _ _ (int32 (length bytes)) bytes c.write_all-2.result
    (rw c.to_be_bytes.ensures at c.in_ok-write_all.ensures.1) c.write_all-2.ensures
