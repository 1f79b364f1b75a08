use Rattle.std.proofs.Common.{◌≤◌}
use Rattle.std.specs.Prelude.{All}
use Rattle.directory_core.proofs.listing.pieces_of.Given as goal

-- those so far fit into a name
abbrev pub invariant-loop-name : goal.invariant-loop-name
invariant-loop-name l = All (λ point. point ≤ 9999999999) l.points.items
