use Rattle.std.proofs.lemmas.List.Elements.{All-weaker}
use Rattle.std.proofs.Common.{List}
use Rattle.tables_core.specs.Indexing.{Numbered, ColumnLists}
use Rattle.tables_core.proofs.column_index.ColumnIndex.ask.Goals as goal

pub returns : goal.returns
returns c = λ h.
    let rows : List Numbered = c.args.rows.now.contents in
    All-weaker (λ r. ColumnLists c.grow.new.self r) (λ r. ColumnLists c.settle.new.self r) c.settle.ensures rows
    (c.grow.ensures (All-weaker (λ r. ColumnLists c.args.self.now r) (λ r. ColumnLists c.begin.new.self r) c.begin.ensures rows h))
