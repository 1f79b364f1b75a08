use Rattle.printer_core.specs.declared.spacing.Spacing.TheVariants as spacings
use Rattle.printer_core.proofs.Back.{spells_back}
use Rattle.printer_core.proofs.laws.printed_is_read.Goals as goal

pub returns : goal.returns
returns c = spells_back spacings.Canonical
