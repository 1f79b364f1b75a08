use Rattle.printer_core.proofs.Writing.{then}
use Rattle.printer_core.proofs.page.Page.revoke.Goals as goal

pub returns-clause-written : goal.returns-clause-written
returns-clause-written c = then c.keyword.ensures c.privileges_from.ensures.written
