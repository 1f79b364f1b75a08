use Rattle.printer_core.proofs.Writing.{then}
use Rattle.printer_core.proofs.printed.ConditionPrinted.write.Goals as goal

pub returns-clause-written : goal.returns-clause-written
returns-clause-written c = then c.name.ensures (then (rw c.comparison_mark.ensures at c.mark.ensures) c.value.ensures)
