use Rattle.parameters_core.proofs.FilledLines.{spelled_alone, spells_alone}
use Rattle.parameters_core.proofs.laws.text_without_places.Goals as goal

pub returns : goal.returns
returns c = record { spelled = spelled_alone; spells = spells_alone }
