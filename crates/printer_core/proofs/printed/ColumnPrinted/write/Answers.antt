use Rattle.printer_core.proofs.Writing.{then}
use Rattle.printer_core.proofs.printed.ColumnPrinted.write.Goals as goal

pub returns-clause-written : goal.returns-clause-written
returns-clause-written c = then c.name.ensures (rw c.type_keyword.ensures at c.keyword.ensures)
