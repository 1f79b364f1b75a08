use Rattle.parameters_core.proofs.FilledLines.{statement_once}
use Rattle.parameters_core.proofs.laws.one_statement_with_values.Goals as goal

pub returns : goal.returns
returns c = statement_once
