use Rattle.std.proofs.Common.{rules}
use Rattle.grants_core.specs.Owners.{owns}
use Rattle.grants_core.proofs.owners.Owners.owns_table.Goals as goal

pub returns-in-None : goal.returns-in-None
unfolding owns
returns-in-None c = search rules
