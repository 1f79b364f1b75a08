use Rattle.reader_core.proofs.Exactness.{exact, exact_fault}
use Rattle.reader_core.proofs.reading.read_with.Goals as goal

pub returns-clause-exact : goal.returns-clause-exact
returns-clause-exact c = λ s p. exact c.args.line.now c.parse.result s c.parse.ensures.spelled c.parse.ensures.faulty p

pub returns-clause-exact_fault : goal.returns-clause-exact_fault
returns-clause-exact_fault c = λ code offset f. exact_fault c.args.line.now c.parse.result code offset c.parse.ensures.spelled c.parse.ensures.faulty f
