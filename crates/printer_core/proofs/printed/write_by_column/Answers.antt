use Rattle.printer_core.proofs.Writing.{then}
use Rattle.printer_core.proofs.printed.write_by_column.Goals as goal

pub returns-clause-written : goal.returns-clause-written
returns-clause-written c = then c.keyword.ensures c.write_columns.ensures.written
