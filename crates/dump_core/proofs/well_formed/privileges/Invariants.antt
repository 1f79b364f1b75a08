use Rattle.std.proofs.Common.{take}
use Rattle.std.specs.List.{All}
use Rattle.reader_core.specs.Forming.{IsWellFormedPrivilege}
use Rattle.dump_core.proofs.well_formed.privileges.Given as goal

abbrev pub invariant-loop-item : goal.invariant-loop-item
invariant-loop-item l = All IsWellFormedPrivilege (take l.item-index l.items)
