use Rattle.std.proofs.Common.{rules}
use Rattle.door_core.proofs.door.Door.admit.Goals as goal

pub returns-in_err-stream-clause-closed : goal.returns-in_err-stream-clause-closed
returns-in_err-stream-clause-closed g c = search rules
