use Rattle.parameters_core.proofs.OneValue.{value_once}
use Rattle.parameters_core.proofs.laws.one_value.Goals as goal

pub returns : goal.returns
returns c = value_once
