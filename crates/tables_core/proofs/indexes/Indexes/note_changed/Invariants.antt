use Rattle.std.proofs.Common.{◌≡◌, List, length, map}
use Rattle.std.specs.List.{All, AllWithin}
use Rattle.tables_core.specs.Contents.{assigned_row}
use Rattle.tables_core.specs.Indexing.{Numbered, ColumnLists, EachLists, ListAll}
use Rattle.tables_core.proofs.indexes.Indexes.note_changed.Given as goal

abbrev pub invariant-loop-at : goal.invariant-loop-at
invariant-loop-at l = record {
  long : length l.self.kept.items ≡ length l.fn.self.kept.items;
  kept : (r : Numbered) → EachLists l.fn.self.kept.items r → EachLists l.self.kept.items r;
  noted : (was : List Numbered) → l.changed ≡ map (assigned_row l.columns l.sets) was → ListAll l.fn.self.kept.items was → AllWithin (λ column. All (λ r. ColumnLists column r) l.changed) l.self.kept.items 0 l.at;
}
