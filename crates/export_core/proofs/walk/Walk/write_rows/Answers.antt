use Rattle.std.proofs.Common.{◌+◌, if◌then◌else◌}
use Rattle.std.proofs.lemmas.Bool.{false_from_ne_true}
use Rattle.std.proofs.lemmas.Result.{err_from_is_err_and}
use Rattle.export_core.proofs.Giving.{writes_more, stops_more}
use Rattle.export_core.proofs.walk.Walk.write_rows.Goals as goal

pub returns-in_err-write_row-clause-err : goal.returns-in_err-write_row-clause-err
returns-in_err-write_row-clause-err g c =
    let before = c.loop.invariant.so_far in
    let p = err_from_is_err_and c.from_residual.result c.from_residual.ensures.1 in
    rw (p.1, p.2) (stops_more before.0 _ _ _ _ before.1 _ _ _ c.in_err-write_row.ensures.err)

pub loop-preserved : goal.loop-preserved
loop-preserved g c =
    let before = c.loop.invariant.so_far in
    record {
      good = false_from_ne_true _ (λ over. let no = c.in_ok-write_row.ensures.write.1 over in cc);
      between = c.in_ok-write_row.ensures.between;
      pending = c.in_ok-write_row.ensures.pending;
      so_far = (before.0 + (if c.in_ok-write_row.field-0 then 1 else 0), writes_more before.0 _ _ _ _ before.1 _ _ _ c.in_ok-write_row.ensures.ok);
    }
