use Rattle.std.proofs.Common.{◌≡◌, length}
use Rattle.std.specs.List.{AllWithin}
use Rattle.tables_core.specs.Indexing.{Numbered, ColumnLists, EachLists}
use Rattle.tables_core.proofs.indexes.Indexes.note_in_each.Given as goal

abbrev pub invariant-loop-at : goal.invariant-loop-at
invariant-loop-at l = record {
  long : length l.self.kept.items ≡ length l.fn.self.kept.items;
  kept : (r : Numbered) → EachLists l.fn.self.kept.items r → EachLists l.self.kept.items r;
  noted : AllWithin (λ column. ColumnLists column (l.number, l.row)) l.self.kept.items 0 l.at;
}
