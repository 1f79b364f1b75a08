use Rattle.lexer_core.proofs.Lines.{tokens_once}
use Rattle.lexer_core.proofs.laws.one_list_of_tokens.Goals as goal

pub returns : goal.returns
returns c = tokens_once
