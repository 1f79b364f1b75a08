use Rattle.std.proofs.Common.{rules}
use Rattle.base_core.proofs.value.ValueTwin.try_twin.Goals as goal

pub returns-in-Int : goal.returns-in-Int
returns-in-Int c = search rules
