use Rattle.parameters_core.proofs.OneValue.{no_fault}
use Rattle.parameters_core.proofs.laws.value_or_fault.Goals as goal

pub returns : goal.returns
returns c = no_fault
