use Rattle.printer_core.proofs.Writing.{then}
use Rattle.printer_core.proofs.printed.AssignmentPrinted.write.Goals as goal

pub returns-clause-written : goal.returns-clause-written
returns-clause-written c = then c.name.ensures (then c.mark.ensures c.value.ensures)
