use Rattle.std.proofs.Common.{sym, ◌∙◌}
use Rattle.asking_core.specs.Asking.{commanded, faulty, too_late, undecided}
use Rattle.asking_core.proofs.asking.unasked.Goals as goal

pub returns-in-Ok-Some : goal.returns-in-Ok-Some
returns-in-Ok-Some g c = commanded (rw c.in-Ok-Some.field-0-is at c.in-Ok-Some.ensures) (sym c.may_answer.ensures ∙ c.if-may_answer.true)

pub returns-in-Ok-Some-2 : goal.returns-in-Ok-Some-2
returns-in-Ok-Some-2 g c = too_late (rw c.in-Ok-Some.field-0-is at c.in-Ok-Some.ensures) (sym c.may_answer.ensures ∙ c.if-may_answer.false)

pub returns-in-Ok-None : goal.returns-in-Ok-None
returns-in-Ok-None g c = faulty c.requires (rw c.in-Ok-None.field-0-is at c.in-Ok-None.ensures)

pub returns-in-Err : goal.returns-in-Err
returns-in-Err g c = undecided
