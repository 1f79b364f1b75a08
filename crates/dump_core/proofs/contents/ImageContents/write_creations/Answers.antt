use Rattle.std.proofs.Common.{◌≡◌, Err, Some, List, ◌∷◌, [], map, length, ap, sym, subst, arith, rules}
use Rattle.std.specs.Prelude.{slice_get}
use Rattle.std.proofs.lemmas.List.{take_all, length-map}
use Rattle.base_core.specs.declared.value.Column.{Column}
use Rattle.reader_core.specs.Forming.{AreNamed}
use Rattle.reader_core.specs.declared.statement.Statement.TheVariants as statements
use Rattle.system_core.specs.World.{entry}
use Rattle.capture_core.specs.declared.image.TableImage.{TableImage}
use Rattle.dump_core.specs.Dump.{creation, as_table, tables_kept}
use Rattle.dump_core.specs.Ending.{WritesLines, IsNowhere, EndsLines}
use Rattle.dump_core.proofs.WritingLemmas.{made_at, map-formed, map-next, map-stop}
use Rattle.dump_core.proofs.contents.ImageContents.write_creations.Goals as goal

pub write_creation-requires-clause-columns : goal.write_creation-requires-clause-columns
write_creation-requires-clause-columns g c =
    let kept = tables_kept c.args.self.now in
    let table = c.table-item.result in
    let at : slice_get kept c.loop-table.table-index ≡ Some (as_table table) =
    subst (λ (ts : List TableImage). slice_get (map as_table ts) c.loop-table.table-index ≡ Some (as_table table)) c.as_slice-table-items.ensures
    (made_at as_table c.as_slice-table-items.result.now c.loop-table.table-index table c.loop-table-test.true c.table-item.is) in
    subst (λ (columns : List Column). AreNamed 32 (λ c'. c'.name) columns) (sym c.as_slice-columns.ensures)
    (map-formed creation kept c.loop-table.table-index (as_table table) at c.requires.formed)

pub returns-in_err-write_creation-clause-ends : goal.returns-in_err-write_creation-clause-ends
returns-in_err-write_creation-clause-ends g c =
    let kept = tables_kept c.args.self.now in
    let table = c.table-item.result in
    let a = g.W.Sink.taken c.args.writer.now in
    let b = g.W.Sink.taken c.loop-table.writer in
    let d = g.W.Sink.taken c.write_creation.new.writer in
    let at : slice_get kept c.loop-table.table-index ≡ Some (as_table table) =
    subst (λ (ts : List TableImage). slice_get (map as_table ts) c.loop-table.table-index ≡ Some (as_table table)) c.as_slice-table-items.ensures
    (made_at as_table c.as_slice-table-items.result.now c.loop-table.table-index table c.loop-table-test.true c.table-item.is) in
    let fault = c.in_err-write_creation.field-0.0 in
    let same : c.from_residual.result ≡ Err fault = search rules in
    let ends = subst (λ (columns : List Column). EndsLines {T = Unit {0}} IsNowhere (entry 0 table.owner (statements.CreateTable table.name columns) ∷ []) (Err fault) b d) c.as_slice-columns.ensures c.in_err-write_creation.ensures.ends in
    map-stop creation kept c.loop-table.table-index (as_table table) at a b d c.loop-table.invariant.1 (Unit {0}) (Unit {0}) c.from_residual.result fault same ends

pub loop-table-preserved : goal.loop-table-preserved
loop-table-preserved g c =
    let kept = tables_kept c.args.self.now in
    let table = c.table-item.result in
    let a = g.W.Sink.taken c.args.writer.now in
    let b = g.W.Sink.taken c.loop-table.writer in
    let d = g.W.Sink.taken c.write_creation.new.writer in
    let at : slice_get kept c.loop-table.table-index ≡ Some (as_table table) =
    subst (λ (ts : List TableImage). slice_get (map as_table ts) c.loop-table.table-index ≡ Some (as_table table)) c.as_slice-table-items.ensures
    (made_at as_table c.as_slice-table-items.result.now c.loop-table.table-index table c.loop-table-test.true c.table-item.is) in
    let wrote = subst (λ (columns : List Column). WritesLines (entry 0 table.owner (statements.CreateTable table.name columns) ∷ []) b d) c.as_slice-columns.ensures c.in_ok-write_creation.ensures.ends in
    (c.in_ok-write_creation.ensures.failed, map-next creation kept c.loop-table.table-index (as_table table) at a b d c.loop-table.invariant.1 wrote)

pub returns-clause-ends : goal.returns-clause-ends
returns-clause-ends g c =
    let kept = tables_kept c.args.self.now in
    let a = g.W.Sink.taken c.args.writer.now in
    let b = g.W.Sink.taken c.loop-table.writer in
    let size : length kept ≡ length c.args.self.now.tables = length-map c.args.self.now.tables as_table in
    let items = ap length c.as_slice-table-items.ensures in
    let past = c.loop-table-test.false in
    subst (λ ts. WritesLines (map creation ts) a b) (take_all c.loop-table.table-index kept (omega arith)) c.loop-table.invariant.1
