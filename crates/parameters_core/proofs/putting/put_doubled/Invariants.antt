use Rattle.std.proofs.Common.{take}
use Rattle.printer_core.specs.Printing.{doubled}
use Rattle.parameters_core.specs.Putting.{IsPut}
use Rattle.parameters_core.proofs.putting.put_doubled.Given as goal

abbrev pub invariant-loop-i : goal.invariant-loop-i
invariant-loop-i l = IsPut (doubled (take l.i l.text)) l.initial.line.items l.line.items
