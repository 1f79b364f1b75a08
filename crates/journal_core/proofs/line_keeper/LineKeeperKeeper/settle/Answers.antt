use Rattle.journal_core.proofs.line_keeper.LineKeeperKeeper.settle.Goals as goal

pub returns-clause-ok : goal.returns-clause-ok
returns-clause-ok g c = rw c.self.view_is at c.write_rest.ensures.ok
