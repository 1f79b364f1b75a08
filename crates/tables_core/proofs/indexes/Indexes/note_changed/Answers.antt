use Rattle.std.proofs.Common.{◌<◌, List, length, get_or, sym, subst, ◌∙◌, length-set, arith}
use Rattle.std.specs.List.{All}
use Rattle.std.proofs.lemmas.List.Elements.{AllWithin-more_set, AllWithin-upto, All-from_all_within, All-get_or, All-weaker}
use Rattle.tables_core.specs.declared.column_index.ColumnIndex.{ColumnIndex}
use Rattle.tables_core.specs.Indexing.{Numbered, ColumnLists}
use Rattle.tables_core.proofs.IndexLemmas.{each-set, lists-unassigned}
use Rattle.tables_core.proofs.indexes.Indexes.note_changed.Goals as goal

pub loop-at-preserved-then-not-assigns : goal.loop-at-preserved-then-not-assigns
loop-at-preserved-then-not-assigns c =
    let k = c.loop-at.invariant in
    let items : List ColumnIndex = c.loop-at.self.kept.items in
    let at = c.loop-at.at in
    let old : ColumnIndex = c.index_mut-column.result.now in
    let changed : List Numbered = c.args.changed.now in
    let lt : at < length items = omega (arith, k.long, c.args.self.now.kept.ok, c.len-at-end.ensures, c.loop-at-test.true) in
    let other = sym c.assigns.ensures ∙ c.if-not-assigns.true in
    record {
      long = length-set items at old ∙ k.long;
      kept = λ r h. each-set items at old old lt c.index_mut-column.ensures.value (λ r h. h) r (k.kept r h);
      noted = λ was is h.
          let listed : All (λ r. ColumnLists old r) was = λ i e less.
          subst (λ (column : ColumnIndex). ColumnLists column (get_or was i e)) (sym c.index_mut-column.ensures.value) (All-get_or (λ column. ColumnLists column (get_or was i e)) items at old lt (k.kept (get_or was i e) (h i e less))) in
          AllWithin-more_set items at old lt (λ column. All (λ r. ColumnLists column r) changed) (k.noted was is h) (lists-unassigned c.args.columns.now c.args.sets.now old was changed other is listed);
    }

pub loop-at-preserved : goal.loop-at-preserved
loop-at-preserved c =
    let k = c.loop-at.invariant in
    let items : List ColumnIndex = c.loop-at.self.kept.items in
    let at = c.loop-at.at in
    let old : ColumnIndex = c.index_mut-column.result.now in
    let between : ColumnIndex = c.note_changed.new.self in
    let new : ColumnIndex = c.age.new.self in
    let changed : List Numbered = c.args.changed.now in
    let lt : at < length items = omega (arith, k.long, c.args.self.now.kept.ok, c.len-at-end.ensures, c.loop-at-test.true) in
    let keeps : (r : Numbered) → ColumnLists old r → ColumnLists new r = λ r h. c.age.ensures r (c.note_changed.ensures.kept r h) in
    record {
      long = length-set items at new ∙ k.long;
      kept = λ r h. each-set items at old new lt c.index_mut-column.ensures.value keeps r (k.kept r h);
      noted = λ was is h. AllWithin-more_set items at new lt (λ column. All (λ r. ColumnLists column r) changed) (k.noted was is h) (All-weaker (λ r. ColumnLists between r) (λ r. ColumnLists new r) c.age.ensures changed c.note_changed.ensures.noted);
    }

pub returns-clause-noted : goal.returns-clause-noted
returns-clause-noted c = λ was is h j d within.
    let items : List ColumnIndex = c.loop-at.self.kept.items in
    let changed : List Numbered = c.args.changed.now in
    let Has : ColumnIndex → Type 0 = λ column. All (λ r. ColumnLists column r) changed in
    let all : All Has items = All-from_all_within Has items (AllWithin-upto Has items 0 c.loop-at.at (length items) (omega (arith, c.loop-at.invariant.long, c.args.self.now.kept.ok, c.len-at-end.ensures, c.loop-at-test.false)) (c.loop-at.invariant.noted was is h)) in
    λ i e less. all i e less j d within
