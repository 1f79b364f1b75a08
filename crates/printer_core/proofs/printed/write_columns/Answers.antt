use Rattle.printer_core.proofs.Writing.{nothing}
use Rattle.printer_core.proofs.printed.write_columns.Goals as goal

pub returns-in_default-clause-written : goal.returns-in_default-clause-written
returns-in_default-clause-written c = rw c.in_default.is (nothing c.args.page.now)
