use Rattle.lexer_core.proofs.Lines.{says_no_fault}
use Rattle.lexer_core.proofs.laws.said_or_faulty.Goals as goal

pub returns : goal.returns
returns c = says_no_fault
