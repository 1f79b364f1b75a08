use Rattle.sysr.proofs.listening.kept.Goals as goal

pub returns-in_ok-left-in-Ok : goal.returns-in_ok-left-in-Ok
returns-in_ok-left-in-Ok g c = record {
  count = c.in_ok-left-in-Ok.ensures.count;
  served = (c.in-Some.sink, c.in-Some.is, rw c.in-Ok.ensures at c.in_ok-left-in-Ok.ensures.leaves, rw c.in-Ok.ensures at c.in_ok-left-in-Ok.ensures.kept);
}
