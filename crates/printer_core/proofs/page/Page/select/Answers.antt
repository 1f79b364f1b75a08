use Rattle.printer_core.proofs.Writing.{then}
use Rattle.printer_core.proofs.page.Page.select.Goals as goal

pub returns-clause-written : goal.returns-clause-written
returns-clause-written c = then c.keyword.ensures (then c.selection.ensures.written (then c.keyword-2.ensures (then c.name.ensures c.filter.ensures.written)))
