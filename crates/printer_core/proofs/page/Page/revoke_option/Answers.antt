use Rattle.printer_core.proofs.Writing.{then}
use Rattle.printer_core.proofs.page.Page.revoke_option.Goals as goal

pub returns-clause-written : goal.returns-clause-written
returns-clause-written c = then c.keyword.ensures (then c.keyword-2.ensures (then c.keyword-3.ensures (then c.keyword-4.ensures c.privileges_from.ensures.written)))
