use Rattle.tables_core.specs.Indexing.{ListAll}
use Rattle.tables_core.proofs.indexes.Indexes.prepare.Given as goal

abbrev pub invariant-loop-condition : goal.invariant-loop-condition
invariant-loop-condition l = ListAll l.fn.self.kept.items l.rows.contents → ListAll l.self.kept.items l.rows.contents
