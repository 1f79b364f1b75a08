use Rattle.std.proofs.Common.{◌≡◌, false, take}
use Rattle.parameters_core.specs.Statements.{open_behind}
use Rattle.parameters_core.specs.Filling.{as_line}
use Rattle.parameters_core.specs.Putting.{IsPut}
use Rattle.parameters_core.proofs.putting.put_segment.Given as goal

abbrev pub invariant-loop-i : goal.invariant-loop-i
invariant-loop-i l =
    (l.is_inside ≡ open_behind false (take l.i l.segment)) × IsPut (as_line (take l.i l.segment)) l.initial.line.items l.line.items
