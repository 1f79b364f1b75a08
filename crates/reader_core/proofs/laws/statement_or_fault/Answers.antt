use Rattle.reader_core.proofs.EachLine as lines
use Rattle.reader_core.proofs.laws.statement_or_fault.Goals as goal

pub returns : goal.returns
returns c = lines.statement_or_fault
