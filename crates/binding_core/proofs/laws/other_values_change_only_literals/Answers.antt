use Rattle.binding_core.proofs.Bounds.{alike}
use Rattle.binding_core.proofs.laws.other_values_change_only_literals.Goals as goal

pub returns : goal.returns
returns c = alike
