use Rattle.std.proofs.Common.{◌≡◌, Err, Some, List, map, length, ap, subst, arith, rules}
use Rattle.std.specs.Prelude.{slice_get}
use Rattle.std.specs.List.{flat_map}
use Rattle.std.proofs.lemmas.List.{take_all, length-map}
use Rattle.capture_core.specs.declared.image.TableImage.{TableImage}
use Rattle.dump_core.specs.Dump.{insertions, as_table, tables_kept}
use Rattle.dump_core.specs.Ending.{WritesLines, IsLongAmong, IsLongIn}
use Rattle.dump_core.proofs.WritingLemmas.{made_at, flat_map-formed, flat_map-next, flat_map-stop, in_table}
use Rattle.dump_core.proofs.contents.ImageContents.write_rows.Goals as goal

pub write_rows_kept-requires-clause-formed : goal.write_rows_kept-requires-clause-formed
write_rows_kept-requires-clause-formed g c =
    let table = c.table-item.result in
    let at : slice_get (tables_kept c.args.self.now) c.loop-table.table-index ≡ Some (as_table table) =
    subst (λ (ts : List TableImage). slice_get (map as_table ts) c.loop-table.table-index ≡ Some (as_table table)) c.as_slice-table-items.ensures
    (made_at as_table c.as_slice-table-items.result.now c.loop-table.table-index table c.loop-table-test.true c.table-item.is) in
    flat_map-formed insertions (tables_kept c.args.self.now) c.loop-table.table-index (as_table table) at c.requires.formed

pub returns-in_err-write_rows_kept-clause-ends : goal.returns-in_err-write_rows_kept-clause-ends
returns-in_err-write_rows_kept-clause-ends g c =
    let kept = tables_kept c.args.self.now in
    let table = c.table-item.result in
    let a = g.W.Sink.taken c.args.writer.now in
    let b = g.W.Sink.taken c.loop-table.writer in
    let d = g.W.Sink.taken c.write_rows_kept.new.writer in
    let at : slice_get kept c.loop-table.table-index ≡ Some (as_table table) =
    subst (λ (ts : List TableImage). slice_get (map as_table ts) c.loop-table.table-index ≡ Some (as_table table)) c.as_slice-table-items.ensures
    (made_at as_table c.as_slice-table-items.result.now c.loop-table.table-index table c.loop-table-test.true c.table-item.is) in
    let fault = c.in_err-write_rows_kept.field-0.0 in
    let same : c.from_residual.result ≡ Err fault = search rules in
    let t = as_table table in
    flat_map-stop insertions kept c.loop-table.table-index t at a b d c.loop-table.invariant.1
    (Unit {0}) (IsLongAmong t.0 t.1.owner t.1.rows) (IsLongIn kept) c.from_residual.result fault same
    (in_table kept c.loop-table.table-index t at) c.in_err-write_rows_kept.ensures.ends

pub loop-table-preserved : goal.loop-table-preserved
loop-table-preserved g c =
    let kept = tables_kept c.args.self.now in
    let table = c.table-item.result in
    let a = g.W.Sink.taken c.args.writer.now in
    let b = g.W.Sink.taken c.loop-table.writer in
    let d = g.W.Sink.taken c.write_rows_kept.new.writer in
    let at : slice_get kept c.loop-table.table-index ≡ Some (as_table table) =
    subst (λ (ts : List TableImage). slice_get (map as_table ts) c.loop-table.table-index ≡ Some (as_table table)) c.as_slice-table-items.ensures
    (made_at as_table c.as_slice-table-items.result.now c.loop-table.table-index table c.loop-table-test.true c.table-item.is) in
    (c.in_ok-write_rows_kept.ensures.failed, flat_map-next insertions kept c.loop-table.table-index (as_table table) at a b d c.loop-table.invariant.1 c.in_ok-write_rows_kept.ensures.ends)

pub returns-clause-ends : goal.returns-clause-ends
returns-clause-ends g c =
    let kept = tables_kept c.args.self.now in
    let a = g.W.Sink.taken c.args.writer.now in
    let b = g.W.Sink.taken c.loop-table.writer in
    let size : length kept ≡ length c.args.self.now.tables = length-map c.args.self.now.tables as_table in
    let items = ap length c.as_slice-table-items.ensures in
    let past = c.loop-table-test.false in
    subst (λ ts. WritesLines (flat_map insertions ts) a b) (take_all c.loop-table.table-index kept (omega arith)) c.loop-table.invariant.1
