use Rattle.std.proofs.Common.{rules}
use Rattle.explain_core.proofs.history.life_of.Goals as goal

pub returns : goal.returns
returns c = search rules
