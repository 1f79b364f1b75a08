use Rattle.printer_core.proofs.Writing.{then}
use Rattle.printer_core.proofs.page.Page.privileges_from.Goals as goal

pub returns-clause-written : goal.returns-clause-written
returns-clause-written c = then (rw c.as_slice.ensures.items at c.write_list.ensures.written) (then c.keyword.ensures (then c.name.ensures (then c.keyword-2.ensures ((rw c.as_slice-2.ensures.items at c.write_list-2.ensures.written)))))
