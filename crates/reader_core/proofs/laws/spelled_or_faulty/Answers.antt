use Rattle.reader_core.proofs.Exactness.{spelled_no_fault}
use Rattle.reader_core.proofs.laws.spelled_or_faulty.Goals as goal

pub returns : goal.returns
returns c = spelled_no_fault
