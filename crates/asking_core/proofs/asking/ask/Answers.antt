use Rattle.std.proofs.Common.{sym, ◌∙◌}
use Rattle.asking_core.specs.Asking.{barred, declined, said, unread}
use Rattle.asking_core.proofs.Turning.{unbarred}
use Rattle.asking_core.proofs.asking.ask.Goals as goal

pub returns-in-Err-At-clause-asks : goal.returns-in-Err-At-clause-asks
returns-in-Err-At-clause-asks g c = declined c.unasked.ensures

pub returns-in-Err-NoMemory-clause-asks : goal.returns-in-Err-NoMemory-clause-asks
returns-in-Err-NoMemory-clause-asks g c = unread

pub returns-in-Some-clause-asks : goal.returns-in-Some-clause-asks
returns-in-Some-clause-asks g c = barred c.in-Ok.ensures.spelled (sym c.bar_of.ensures ∙ c.in-Some.is)

pub returns-clause-asks : goal.returns-clause-asks
returns-clause-asks g c = said c.in-Ok.ensures.spelled (unbarred _ _ c.bar_of.ensures c.in_default.not-Some) (sym c.wants_described.ensures ∙ c.if-wants_described.false) c.say.ensures.says
