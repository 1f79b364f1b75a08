use Rattle.lexer_core.proofs.EachLine as lines
use Rattle.lexer_core.proofs.laws.reading_or_fault.Goals as goal

pub returns : goal.returns
returns c = lines.reading_or_fault
