use Rattle.parameters_core.proofs.Fills.{short_has_none}
use Rattle.parameters_core.proofs.laws.line_or_fault.Goals as goal

pub returns : goal.returns
returns c = short_has_none
