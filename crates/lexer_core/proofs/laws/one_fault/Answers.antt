use Rattle.lexer_core.proofs.Lines.{fault_once}
use Rattle.lexer_core.proofs.laws.one_fault.Goals as goal

pub returns : goal.returns
returns c = fault_once
