use Rattle.std.proofs.Common.{take}
use Rattle.folder_core.specs.Calls.{Moves}
use Rattle.recovery_core.specs.Recovered.{Clears}
use Rattle.recovery_core.proofs.recovery.clear.Given as goal

abbrev pub invariant-loop-point : goal.invariant-loop-point
invariant-loop-point g l = Moves (Clears l.at (take l.point-index l.points)) (g.F.Folder.state l.fn.folder) (g.F.Folder.state l.folder)
