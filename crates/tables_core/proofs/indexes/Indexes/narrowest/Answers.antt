use Rattle.std.proofs.Common.{◌≡◌, ◌<◌, ◌∙◌, true, List, Option, length, get_or, slice_get, ap, subst}
use Rattle.base_core.specs.Filter.{is_chosen}
use Rattle.base_core.specs.declared.value.Value.{Value}
use Rattle.index_core.specs.declared.index.Index.{Index}
use Rattle.index_core.specs.declared.interval.Interval.{Interval}
use Rattle.index_core.specs.declared.key.Key.{Key}
use Rattle.tables_core.specs.declared.column_index.ColumnIndex.{ColumnIndex}
use Rattle.tables_core.specs.Indexing.{IsCellWithin, IsCellKept}
use Rattle.tables_core.proofs.IndexLemmas.{leads-within}
use Rattle.tables_core.proofs.indexes.Indexes.narrowest.Goals as goal

pub loop-column-preserved : goal.loop-column-preserved
loop-column-preserved c =
    let kept = c.args.self.now.kept.items in
    let columns = c.args.conditions.now.columns.now in
    let filter = c.args.conditions.now.items.now in
    let items = c.as_slice-column-items.ensures.value in
    let column : ColumnIndex = c.column-item.result in
    let index : Index = c.in-Some.index.now in
    let interval : Interval = c.in-Some-interval_at.interval in
    let at = c.loop-column.column-index in
    let lt : at < length kept = subst (λ (l : List ColumnIndex). at < length l) items c.loop-column-test.true in
    let is : column ≡ get_or kept at column = c.column-item.is ∙ ap (λ (l : List ColumnIndex). get_or l at column) items in
    let within : (row : List Value) → is_chosen columns filter row ≡ true → IsCellWithin index.key interval (slice_get row column.place) = λ row met.
    subst (λ (k : Key). IsCellWithin k interval (slice_get row column.place)) c.key-key.ensures
    (subst (λ (o : Option Interval). IsCellKept c.key-key.result o (slice_get row column.place)) c.in-Some-interval_at.is (c.interval_at.ensures row met)) in
    leads-within kept columns filter at column index interval lt is c.in-Some.ensures within
