use Rattle.std.proofs.Common.{◌++◌, List, IsSomeAnd}
use Rattle.tables_core.specs.Contents.{assigned_values, table_of}
use Rattle.stream_core.specs.declared.effect.Effect.{Effect}
use Rattle.stream_core.specs.Updates.{AreUpdates}
use Rattle.stream_core.proofs.rows.updates.Given as goal

-- with the effects of the rows to come, those so far are the effects of all rows
abbrev pub invariant-loop-number : goal.invariant-loop-number
invariant-loop-number l =
    IsSomeAnd (table_of l.tables.tables l.table) (λ t. (later : List Effect)
    → AreUpdates l.table (assigned_values t.columns l.sets) l.number-iterator.rest.items later
    → AreUpdates l.table (assigned_values t.columns l.sets) l.fn.rows.items (l.all.items ++ later))
