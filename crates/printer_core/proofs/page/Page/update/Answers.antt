use Rattle.printer_core.proofs.Writing.{then}
use Rattle.printer_core.proofs.page.Page.update.Goals as goal

pub returns-clause-written : goal.returns-clause-written
returns-clause-written c = then c.keyword.ensures (then c.name.ensures (then c.keyword-2.ensures (then (rw c.as_slice.ensures.items at c.write_list.ensures.written) c.filter.ensures.written)))
