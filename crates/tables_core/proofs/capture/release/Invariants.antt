use Rattle.std.proofs.Common.{◌≡◌, length, take}
use Rattle.tables_core.specs.Capture.{CapturesUpTo, shown_tables}
use Rattle.tables_core.proofs.capture.release.Given as goal

abbrev pub invariant-loop-place : goal.invariant-loop-place
invariant-loop-place l = record {
  long : length l.tables.entries ≡ length l.fn.tables.entries;
  shown : shown_tables l.tables.entries ≡ shown_tables l.fn.tables.entries;
  captures : CapturesUpTo 0 (take l.place l.tables.entries);
}
