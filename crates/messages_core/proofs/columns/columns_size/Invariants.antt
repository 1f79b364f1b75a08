use Rattle.std.proofs.Common.{◌≡◌, ◌*◌, ◌≤◌, length, take, flat_map}
use Rattle.messages_core.specs.Columns.{table_columns}
use Rattle.messages_core.specs.Rows.{described}
use Rattle.messages_core.proofs.columns.columns_size.Given as goal

abbrev pub invariant-loop-i : goal.invariant-loop-i
invariant-loop-i l = record {
  told : l.size ≡ length (flat_map described (take l.i (table_columns l.columns l.formats)));
  short : l.size ≤ 49 * l.i;
}
