use Rattle.std.proofs.Common.{rules}
use Rattle.script_core.proofs.scripts.address.addressed_up_to.Goals as goal

pub returns-then-line-most-clause-exact : goal.returns-then-line-most-clause-exact
returns-then-line-most-clause-exact c = search rules
