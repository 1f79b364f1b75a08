use Rattle.lexer_core.proofs.Lines.{says_once}
use Rattle.lexer_core.proofs.laws.one_reading.Goals as goal

pub returns : goal.returns
returns c = says_once
