use Rattle.printer_core.proofs.Writing.{nothing, then}
use Rattle.printer_core.proofs.page.Page.only.Goals as goal

pub returns-in-Some : goal.returns-in-Some
returns-in-Some c = rw c.in-Some.is (then c.keyword.ensures c.name.ensures)

pub returns-in_default : goal.returns-in_default
returns-in_default c = rw c.in_default.is (nothing c.args.self.now)
