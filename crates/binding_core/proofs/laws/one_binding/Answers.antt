use Rattle.binding_core.proofs.Bounds.{binding_once}
use Rattle.binding_core.proofs.laws.one_binding.Goals as goal

pub returns : goal.returns
returns c = binding_once
