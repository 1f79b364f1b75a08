use Rattle.std.proofs.Common.{◌≡◌, drop}
use Rattle.monitor_core.specs.Verdict.{each, column_stands}
use Rattle.monitor_core.proofs.judging.Judge.columns_stand.Given as goal

-- all before passed: what is found of the rest is what is found of all
abbrev pub invariant-loop-item : goal.invariant-loop-item
invariant-loop-item g l =
    each (drop l.item-index l.items) (λ item. column_stands l.self l.table (g.T.Named.name_of item))
    ≡ each l.items (λ item. column_stands l.self l.table (g.T.Named.name_of item))
