use Rattle.std.specs.Prelude.{All}
use Rattle.directory_core.specs.Small.{IsSmall}
use Rattle.directory_core.proofs.listing.names_in.Given as goal

-- those so far fit into names
abbrev pub invariant-loop-entry : goal.invariant-loop-entry
invariant-loop-entry l = All IsSmall l.names.items
