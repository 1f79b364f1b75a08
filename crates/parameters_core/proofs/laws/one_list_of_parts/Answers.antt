use Rattle.parameters_core.proofs.Parts.{parts_once}
use Rattle.parameters_core.proofs.laws.one_list_of_parts.Goals as goal

pub returns : goal.returns
returns c = parts_once
