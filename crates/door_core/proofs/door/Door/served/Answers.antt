use Rattle.std.proofs.Common.{rules}
use Rattle.door_core.proofs.door.Door.served.Goals as goal

pub returns-clause-asked : goal.returns-clause-asked
returns-clause-asked g c = search rules
