use Rattle.printer_core.proofs.Writing.{nothing, then}
use Rattle.printer_core.proofs.page.Page.grant_option.Goals as goal

pub returns-then-option : goal.returns-then-option
returns-then-option c = rw c.if-option.true (then c.keyword.ensures (then c.keyword-then-option.ensures c.keyword-then-option-2.ensures))

pub returns-else-option : goal.returns-else-option
returns-else-option c = rw c.if-option.false (nothing c.args.self.now)
