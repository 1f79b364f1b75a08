use Rattle.std.proofs.Common.{rules}
use Rattle.base_core.proofs.value.Value.order.Goals as goal

pub returns-in-Int-Int : goal.returns-in-Int-Int
returns-in-Int-Int c = search rules
