use Rattle.reader_core.proofs.Exactness.{one_line_fault}
use Rattle.reader_core.proofs.laws.one_fault.Goals as goal

pub returns : goal.returns
returns c = one_line_fault
