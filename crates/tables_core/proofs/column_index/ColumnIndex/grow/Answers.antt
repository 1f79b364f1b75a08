use Rattle.std.proofs.Common.{◌∙◌, List, sym}
use Rattle.tables_core.specs.Indexing.{Numbered}
use Rattle.tables_core.proofs.IndexLemmas.{below-listed, reached-listed}
use Rattle.tables_core.proofs.column_index.ColumnIndex.grow.Goals as goal

pub returns-in-Ok : goal.returns-in-Ok
returns-in-Ok c = λ h.
    let rows : List Numbered = c.args.rows.now.contents in
    reached-listed c.args.self.now.place c.extend.new.index c.in-Ok.reach rows
    (c.in-Ok.ensures (below-listed c.args.self.now c.in-Some.index c.in-Below.from rows (sym c.take.ensures.value ∙ c.in-Some.is) c.in-Below.is h))
