use Rattle.std.proofs.Common.{◌≡◌, ℕ, false, List, ◌++◌, map, length}
use Rattle.base_core.specs.declared.value.Row.{Row}
use Rattle.dump_core.specs.Dump.{insertion}
use Rattle.dump_core.specs.Ending.{WritesLines}
use Rattle.dump_core.proofs.contents.write_rows_of.Given as goal

abbrev pub invariant-loop-row : goal.invariant-loop-row
invariant-loop-row g l =
    (done : List (ℕ × Row))
    × (g.W.Sink.failed l.writer ≡ false)
    × WritesLines (map (insertion l.table.name l.table.owner) done) (g.W.Sink.taken l.initial.writer) (g.W.Sink.taken l.writer)
    × (done ++ l.row-iterator ≡ l.table.rows.now.contents)
    × (l.number ≡ length done)
