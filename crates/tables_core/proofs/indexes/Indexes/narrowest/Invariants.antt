use Rattle.std.specs.Option.{IfSome}
use Rattle.index_core.specs.Listed.{listed}
use Rattle.tables_core.specs.Contents.{satisfies}
use Rattle.tables_core.specs.Indexing.{ListsEachPassing}
use Rattle.tables_core.proofs.indexes.Indexes.narrowest.Given as goal

abbrev pub invariant-loop-column : goal.invariant-loop-column
invariant-loop-column l = IfSome l.best (λ best. ListsEachPassing l.self.kept.items (satisfies l.conditions.columns.now l.conditions.items.now) (listed best.0.now best.1))
