use Rattle.parameters_core.proofs.Alike.{other_values}
use Rattle.parameters_core.proofs.laws.values_change_only_literals.Goals as goal

pub returns : goal.returns
returns c = other_values
