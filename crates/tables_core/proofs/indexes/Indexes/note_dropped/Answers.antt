use Rattle.std.proofs.Common.{◌<◌, List, length, ◌∙◌, length-set, arith}
use Rattle.tables_core.specs.declared.column_index.ColumnIndex.{ColumnIndex}
use Rattle.tables_core.proofs.IndexLemmas.{each-set}
use Rattle.tables_core.proofs.indexes.Indexes.note_dropped.Goals as goal

pub loop-at-preserved : goal.loop-at-preserved
loop-at-preserved c =
    let k = c.loop-at.invariant in
    let items : List ColumnIndex = c.loop-at.self.kept.items in
    let at = c.loop-at.at in
    let new : ColumnIndex = c.age.new.self in
    let lt : at < length items = omega (arith, k.long, c.args.self.now.kept.ok, c.len-at-end.ensures, c.loop-at-test.true) in
    record {
      long = length-set items at new ∙ k.long;
      kept = λ r h. each-set items at c.index_mut.result.now new lt c.index_mut.ensures.value c.age.ensures r (k.kept r h);
    }
