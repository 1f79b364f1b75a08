use Rattle.printer_core.specs.declared.spacing.Spacing.TheVariants as spacings
use Rattle.printer_core.proofs.Back.{spells_again}
use Rattle.printer_core.proofs.laws.read_is_printed.Goals as goal

pub returns : goal.returns
returns c = spells_again spacings.Canonical
