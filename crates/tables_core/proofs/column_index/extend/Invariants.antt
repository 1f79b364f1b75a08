use Rattle.std.proofs.Common.{◌<◌}
use Rattle.std.specs.List.{All}
use Rattle.tables_core.specs.Indexing.{Lists}
use Rattle.tables_core.proofs.column_index.extend.Given as goal

abbrev pub invariant-loop : goal.invariant-loop
invariant-loop l =
    All (λ r. r.0 < l.fn.from → Lists l.fn.index l.place r) l.rows.contents
    → All (λ r. r.0 < l.next → Lists l.index l.place r) l.rows.contents
