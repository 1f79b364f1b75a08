use Rattle.tables_core.proofs.indexes.Indexes.prepare.Goals as goal

pub loop-condition-preserved : goal.loop-condition-preserved
loop-condition-preserved c = λ h. c.ask.ensures (c.loop-condition.invariant h)
