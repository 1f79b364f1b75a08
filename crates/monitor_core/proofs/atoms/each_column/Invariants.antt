use Rattle.std.proofs.Common.{◌≡◌, drop}
use Rattle.monitor_core.specs.Verdict.{each}
use Rattle.monitor_core.specs.Atoms.{of_column}
use Rattle.monitor_core.proofs.atoms.each_column.Given as goal

-- all before passed: what is found of the rest is what is found of all
abbrev pub invariant-loop-item : goal.invariant-loop-item
invariant-loop-item g l =
    each (drop l.item-index l.items) (λ item. g.C.AtomCheck.check_of l.check (of_column l.by l.table (g.T.Named.name_of item)))
    ≡ each l.items (λ item. g.C.AtomCheck.check_of l.check (of_column l.by l.table (g.T.Named.name_of item)))
