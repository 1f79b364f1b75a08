use Rattle.std.proofs.Common.{◌≡◌, take}
use Rattle.export_core.specs.Marks.{both}
use Rattle.export_core.proofs.marks.Marks.both.Given as goal

abbrev pub invariant-loop-at : goal.invariant-loop-at
invariant-loop-at l = l.marks.items ≡ both (take l.at l.fn.self) l.set
