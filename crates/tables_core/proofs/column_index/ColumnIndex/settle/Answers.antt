use Rattle.std.proofs.Common.{◌∙◌, sym, subst}
use Rattle.index_core.specs.declared.index.Index.{Index}
use Rattle.tables_core.specs.Indexing.{Lists}
use Rattle.tables_core.proofs.IndexLemmas.{lists-kept, some-same}
use Rattle.tables_core.proofs.column_index.ColumnIndex.settle.Goals as goal

pub returns-in-Ok : goal.returns-in-Ok
returns-in-Ok c = λ r lists index is reached.
    let place = c.args.self.now.place in
    let new : Index = c.settle.new.self in
    subst (λ (i : Index). Lists i place r) (some-same new index is)
    (lists-kept c.in-Some.index new c.settle.ensures.key (λ i n. (c.in-Ok.ensures.same i n).0) place r (lists c.in-Some.index (sym c.take.ensures.value ∙ c.in-Some.is) reached))
