use Rattle.std.proofs.Common.{take}
use Rattle.std.specs.List.{All}
use Rattle.tables_core.specs.Indexing.{Numbered, ColumnLists}
use Rattle.tables_core.proofs.column_index.ColumnIndex.note_all.Given as goal

abbrev pub invariant-loop-number : goal.invariant-loop-number
invariant-loop-number l = record {
  kept : (r : Numbered) → ColumnLists l.fn.self r → ColumnLists l.self r;
  noted : All (λ r. ColumnLists l.self r) (take l.number-index l.rows);
}
