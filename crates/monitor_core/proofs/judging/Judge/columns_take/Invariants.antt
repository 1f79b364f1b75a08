use Rattle.std.proofs.Common.{◌≡◌, drop}
use Rattle.monitor_core.specs.Verdict.{each, column_takes}
use Rattle.monitor_core.proofs.judging.Judge.columns_take.Given as goal

-- all before passed: what is found of the rest is what is found of all
abbrev pub invariant-loop-item : goal.invariant-loop-item
invariant-loop-item g l =
    each (drop l.item-index l.items) (λ item. column_takes l.self l.table (g.T.Named.name_of item) (g.T.Literal.literal_of item))
    ≡ each l.items (λ item. column_takes l.self l.table (g.T.Named.name_of item) (g.T.Literal.literal_of item))
