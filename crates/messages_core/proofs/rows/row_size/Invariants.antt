use Rattle.std.proofs.Common.{◌≡◌, ◌*◌, ◌≤◌, length, take, flat_map}
use Rattle.messages_core.specs.Fields.{value}
use Rattle.messages_core.specs.Rows.{row_values}
use Rattle.messages_core.proofs.rows.row_size.Given as goal

abbrev pub invariant-loop-i : goal.invariant-loop-i
invariant-loop-i l = (l.size ≡ length (flat_map value (take l.i (row_values l.values l.formats)))) × (l.size ≤ 1028 * l.i)
