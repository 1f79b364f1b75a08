use Rattle.std.proofs.Common.{rules}
use Rattle.base_core.proofs.bounded.Distinct.from_vec.Goals as goal

pub invariant_of-result : goal.invariant_of-result
invariant_of-result g c = search rules
