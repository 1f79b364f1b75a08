use Rattle.std.proofs.Common.{◌+◌, arith}
use Rattle.std.proofs.lemmas.Result.{err_from_is_err_and}
use Rattle.export_core.proofs.Giving.{writes_more, stops_more}
use Rattle.export_core.proofs.walk.Walk.write_some.Goals as goal

pub returns-in_err-write_rows-clause-err : goal.returns-in_err-write_rows-clause-err
returns-in_err-write_rows-clause-err g c =
    let p = err_from_is_err_and c.from_residual-in_err-write_rows.result c.from_residual-in_err-write_rows.ensures.1 in
    rw (p.1, p.2) (stops_more 1 _ _ _ _ c.in_ok-write_next.ensures.ok _ _ _ c.in_err-write_rows.ensures.err)

pub returns-clause-ok : goal.returns-clause-ok
returns-clause-ok g c =
    let rows = c.in_ok-write_rows.ensures.ok in
    (1 + rows.0, omega arith, writes_more 1 _ _ _ _ c.in_ok-write_next.ensures.ok rows.0 _ _ rows.1)
