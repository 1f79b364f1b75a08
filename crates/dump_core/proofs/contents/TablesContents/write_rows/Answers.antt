use Rattle.std.proofs.Common.{◌≡◌, Err, rules}
use Rattle.dump_core.specs.Dump.{insertions}
use Rattle.dump_core.specs.Ending.{IsLongAmong, IsLongIn}
use Rattle.dump_core.proofs.WritingLemmas.{flat_map-formed, flat_map-next, flat_map-stop, in_table}
use Rattle.dump_core.proofs.contents.TablesContents.write_rows.Goals as goal

pub write_rows_of-requires-clause-formed : goal.write_rows_of-requires-clause-formed
write_rows_of-requires-clause-formed g c = flat_map-formed insertions c.args.self.now.tables c.loop-index.index _ c.table_at-table.ensures c.requires.formed

pub returns-in_err-write_rows_of-clause-ends : goal.returns-in_err-write_rows_of-clause-ends
returns-in_err-write_rows_of-clause-ends g c =
    let same : c.from_residual.result ≡ Err c.in_err-write_rows_of.field-0.0 = search rules in
    let table = c.table_at-table.result in
    flat_map-stop insertions c.args.self.now.tables c.loop-index.index _ c.table_at-table.ensures
    (g.W.Sink.taken c.args.writer.now) (g.W.Sink.taken c.loop-index.writer) (g.W.Sink.taken c.write_rows_of.new.writer) c.loop-index.invariant.1
    (Unit {0}) (IsLongAmong table.name table.owner table.rows.now.contents) (IsLongIn c.args.self.now.tables) c.from_residual.result c.in_err-write_rows_of.field-0.0 same
    (in_table c.args.self.now.tables c.loop-index.index _ c.table_at-table.ensures) c.in_err-write_rows_of.ensures.ends

pub loop-index-preserved : goal.loop-index-preserved
loop-index-preserved g c = (
  c.in_ok-write_rows_of.ensures.failed,
  flat_map-next insertions c.args.self.now.tables c.loop-index.index _ c.table_at-table.ensures
      (g.W.Sink.taken c.args.writer.now) (g.W.Sink.taken c.loop-index.writer) (g.W.Sink.taken c.write_rows_of.new.writer) c.loop-index.invariant.1
      c.in_ok-write_rows_of.ensures.ends,
)
