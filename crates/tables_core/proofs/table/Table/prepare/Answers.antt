use Rattle.tables_core.proofs.table.Table.prepare.Goals as goal

pub invariant_of-self : goal.invariant_of-self
invariant_of-self c = (c.self.invariant.0, c.self.invariant.1, c.prepare.ensures c.self.invariant.2)
