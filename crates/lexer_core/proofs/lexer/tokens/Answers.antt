use Rattle.std.proofs.Common.{rules}
use Rattle.lexer_core.proofs.lexer.tokens.Goals as goal

pub returns-in-Ok-clause-outcome : goal.returns-in-Ok-clause-outcome
returns-in-Ok-clause-outcome c = search rules
