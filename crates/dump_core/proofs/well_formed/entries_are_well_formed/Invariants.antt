use Rattle.std.proofs.Common.{take}
use Rattle.std.specs.List.{All}
use Rattle.reader_core.specs.Forming.{IsWellFormed}
use Rattle.dump_core.proofs.well_formed.entries_are_well_formed.Given as goal

abbrev pub invariant-loop-entry : goal.invariant-loop-entry
invariant-loop-entry l = All (λ e. IsWellFormed e.statement) (take l.entry-index l.entries)
