use Rattle.sysr.proofs.running.kept.Goals as goal

pub returns-in-Ok : goal.returns-in-Ok
returns-in-Ok g c = (c.in-Some.sink, c.in-Some.is, rw c.in-Ok.ensures at c.in_ok-left-in-Ok.ensures)
