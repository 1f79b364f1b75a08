use Rattle.std.proofs.Common.{◌≡◌, Err, rules}
use Rattle.dump_core.specs.Dump.{creation}
use Rattle.dump_core.proofs.WritingLemmas.{map-formed, map-next, map-stop}
use Rattle.dump_core.proofs.contents.TablesContents.write_creations.Goals as goal

pub write_creation-requires-clause-columns : goal.write_creation-requires-clause-columns
write_creation-requires-clause-columns g c = map-formed creation c.args.self.now.tables c.loop-index.index _ c.table_at-table.ensures c.requires.formed

pub returns-in_err-write_creation-clause-ends : goal.returns-in_err-write_creation-clause-ends
returns-in_err-write_creation-clause-ends g c =
    let same : c.from_residual.result ≡ Err c.in_err-write_creation.field-0.0 = search rules in
    map-stop creation c.args.self.now.tables c.loop-index.index _ c.table_at-table.ensures
    (g.W.Sink.taken c.args.writer.now) (g.W.Sink.taken c.loop-index.writer) (g.W.Sink.taken c.write_creation.new.writer) c.loop-index.invariant.1
    (Unit {0}) (Unit {0}) c.from_residual.result c.in_err-write_creation.field-0.0 same c.in_err-write_creation.ensures.ends

pub loop-index-preserved : goal.loop-index-preserved
loop-index-preserved g c = (
  c.in_ok-write_creation.ensures.failed,
  map-next creation c.args.self.now.tables c.loop-index.index _ c.table_at-table.ensures
      (g.W.Sink.taken c.args.writer.now) (g.W.Sink.taken c.loop-index.writer) (g.W.Sink.taken c.write_creation.new.writer) c.loop-index.invariant.1
      c.in_ok-write_creation.ensures.ends,
)
