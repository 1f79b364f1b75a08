use Rattle.std.proofs.Common.{◌≡◌, length}
use Rattle.tables_core.specs.Indexing.{Numbered, EachLists}
use Rattle.tables_core.proofs.indexes.Indexes.note_dropped.Given as goal

abbrev pub invariant-loop-at : goal.invariant-loop-at
invariant-loop-at l = record {
  long : length l.self.kept.items ≡ length l.fn.self.kept.items;
  kept : (r : Numbered) → EachLists l.fn.self.kept.items r → EachLists l.self.kept.items r;
}
