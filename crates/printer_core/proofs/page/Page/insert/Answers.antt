use Rattle.printer_core.proofs.Writing.{then}
use Rattle.printer_core.proofs.page.Page.insert.Goals as goal

pub returns-clause-written : goal.returns-clause-written
returns-clause-written c = then c.keyword.ensures (then c.keyword-2.ensures (then c.name.ensures (then c.keyword-3.ensures (then c.mark.ensures (then (rw c.as_slice.ensures.items at c.write_list.ensures.written) c.mark-2.ensures)))))
