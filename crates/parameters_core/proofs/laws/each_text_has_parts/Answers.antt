use Rattle.parameters_core.proofs.EachText.{each_text}
use Rattle.parameters_core.proofs.laws.each_text_has_parts.Goals as goal

pub returns : goal.returns
returns c = each_text
