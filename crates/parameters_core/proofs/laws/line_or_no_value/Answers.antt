use Rattle.parameters_core.proofs.FilledLines.{line_or_none}
use Rattle.parameters_core.proofs.laws.line_or_no_value.Goals as goal

pub returns : goal.returns
returns c = line_or_none
