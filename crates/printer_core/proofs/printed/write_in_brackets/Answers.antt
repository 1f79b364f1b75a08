use Rattle.printer_core.proofs.Writing.{then}
use Rattle.printer_core.proofs.printed.write_in_brackets.Goals as goal

pub returns-clause-written : goal.returns-clause-written
returns-clause-written c = then c.mark.ensures (then (rw c.as_slice.ensures.items at c.write_list.ensures.written) c.mark-2.ensures)
