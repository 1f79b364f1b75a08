use Rattle.std.proofs.Common.{◌≡◌, ◌++◌, map, take}
use Rattle.monitor_core.specs.Atoms.{of_column}
use Rattle.explain_words.proofs.privileges.push_columns.Given as goal

abbrev pub invariant-loop-item : goal.invariant-loop-item
invariant-loop-item g l = l.atoms.items ≡ l.initial.atoms.items ++ map (λ item. of_column l.by l.table (g.T.Named.name_of item)) (take l.item-index l.items)
