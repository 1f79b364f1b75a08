use Rattle.asking_core.specs.Asking.{IsUnsaid}
use Rattle.asking_core.proofs.describing.unsaid.Goals as goal

pub returns-in-Ok-Some : goal.returns-in-Ok-Some
returns-in-Ok-Some c = IsUnsaid.commanded (rw c.in-Ok-Some.field-0-is at c.in-Ok-Some.ensures)

pub returns-in-Ok-None : goal.returns-in-Ok-None
returns-in-Ok-None c = IsUnsaid.faulty c.requires (rw c.in-Ok-None.field-0-is at c.in-Ok-None.ensures)

pub returns-in-Err : goal.returns-in-Err
returns-in-Err c = IsUnsaid.undecided
