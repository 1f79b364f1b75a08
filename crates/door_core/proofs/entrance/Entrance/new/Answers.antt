use Rattle.std.proofs.Common.{rules}
use Rattle.door_core.proofs.entrance.Entrance.new.Goals as goal

pub returns : goal.returns
returns g c = search rules
