use Rattle.std.proofs.Common.{◌≡◌, take}
use Rattle.preparing_core.proofs.formats.formats_of.Given as goal

abbrev pub invariant-loop-column : goal.invariant-loop-column
invariant-loop-column l = l.formats ≡ take l.column l.found
