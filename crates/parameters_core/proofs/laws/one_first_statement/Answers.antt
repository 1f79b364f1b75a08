use Rattle.parameters_core.proofs.Cuts.{first_once}
use Rattle.parameters_core.proofs.laws.one_first_statement.Goals as goal

pub returns : goal.returns
returns c = first_once
