use Rattle.std.proofs.Common.{◌≡◌, ◌++◌, map, drop}
use Rattle.monitor_core.specs.Atoms.{of_column}
use Rattle.system_core.proofs.machine.atoms.push_columns.Given as goal

-- the atoms so far and those to come
abbrev pub invariant-loop-item : goal.invariant-loop-item
invariant-loop-item g l = l.atoms.items ++ map (λ item. of_column l.by l.table (g.T.Named.name_of item)) (drop l.item-index l.items) ≡ l.fn.atoms.items ++ map (λ item. of_column l.by l.table (g.T.Named.name_of item)) l.items
