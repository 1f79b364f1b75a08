use Rattle.binding_core.proofs.Bounds.{no_binding_fault}
use Rattle.binding_core.proofs.laws.binding_or_fault.Goals as goal

pub returns : goal.returns
returns c = no_binding_fault
