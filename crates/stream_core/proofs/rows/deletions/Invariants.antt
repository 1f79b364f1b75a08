use Rattle.std.proofs.Common.{◌≡◌, map, take}
use Rattle.stream_core.specs.Updates.{row_deleted}
use Rattle.stream_core.proofs.rows.deletions.Given as goal

abbrev pub invariant-loop-row : goal.invariant-loop-row
invariant-loop-row l = l.all.items ≡ map (row_deleted l.table) (take l.row-index l.rows)
