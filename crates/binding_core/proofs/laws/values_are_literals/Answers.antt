use Rattle.binding_core.proofs.Bounds.{says_literals}
use Rattle.binding_core.proofs.laws.values_are_literals.Goals as goal

pub returns : goal.returns
returns c = says_literals
