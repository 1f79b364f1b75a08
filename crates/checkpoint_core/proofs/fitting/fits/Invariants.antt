use Rattle.std.proofs.Common.{◌≤◌, ◌+◌, take}
use Rattle.checkpoint_core.proofs.Sizes.{statements}
use Rattle.checkpoint_core.proofs.fitting.fits.Given as goal

-- the tables so far have so many statements
abbrev pub invariant-loop-table : goal.invariant-loop-table
invariant-loop-table l = statements (take l.table-index l.table-items) + l.left ≤ l.most
