use Rattle.std.proofs.Common.{◌<◌, List, length, ◌∙◌, length-set, arith}
use Rattle.std.proofs.lemmas.List.Elements.{AllWithin-more_set, AllWithin-upto, All-from_all_within}
use Rattle.tables_core.specs.declared.column_index.ColumnIndex.{ColumnIndex}
use Rattle.tables_core.specs.Indexing.{Numbered, ColumnLists}
use Rattle.tables_core.proofs.IndexLemmas.{each-set}
use Rattle.tables_core.proofs.indexes.Indexes.note_in_each.Goals as goal

pub loop-at-preserved : goal.loop-at-preserved
loop-at-preserved c =
    let k = c.loop-at.invariant in
    let items : List ColumnIndex = c.loop-at.self.kept.items in
    let at = c.loop-at.at in
    let old : ColumnIndex = c.index_mut-column.result.now in
    let new : ColumnIndex = c.age.new.self in
    let row : Numbered = (c.args.number, c.args.row.now) in
    let lt : at < length items = omega (arith, k.long, c.args.self.now.kept.ok, c.len-at-end.ensures, c.loop-at-test.true) in
    let keeps : (r : Numbered) → ColumnLists old r → ColumnLists new r = λ r h. c.age.ensures r (c.note.ensures.kept r h) in
    record {
      long = length-set items at new ∙ k.long;
      kept = λ r h. each-set items at old new lt c.index_mut-column.ensures.value keeps r (k.kept r h);
      noted = AllWithin-more_set items at new lt (λ column. ColumnLists column row) k.noted (c.age.ensures row c.note.ensures.noted);
    }

pub returns-clause-noted : goal.returns-clause-noted
returns-clause-noted c =
    let items : List ColumnIndex = c.loop-at.self.kept.items in
    let row : Numbered = (c.args.number, c.args.row.now) in
    let Has : ColumnIndex → Type 0 = λ column. ColumnLists column row in
    All-from_all_within Has items (AllWithin-upto Has items 0 c.loop-at.at (length items) (omega (arith, c.loop-at.invariant.long, c.args.self.now.kept.ok, c.len-at-end.ensures, c.loop-at-test.false)) c.loop-at.invariant.noted)
