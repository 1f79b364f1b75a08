use Rattle.parameters_core.proofs.FilledLines.{line_once}
use Rattle.parameters_core.proofs.laws.one_line.Goals as goal

pub returns : goal.returns
returns c = line_once
