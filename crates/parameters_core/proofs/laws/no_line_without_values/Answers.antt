use Rattle.parameters_core.proofs.FilledLines.{not_both}
use Rattle.parameters_core.proofs.laws.no_line_without_values.Goals as goal

pub returns : goal.returns
returns c = not_both
