use Rattle.std.proofs.Common.{◌≡◌, length, drop}
use Rattle.std.specs.List.{zip}
use Rattle.monitor_core.specs.Verdict.{each, takes}
use Rattle.monitor_core.proofs.checks.each_takes.Given as goal

-- all before passed: what is found of the rest is what is found of all
abbrev pub invariant-loop-column : goal.invariant-loop-column
invariant-loop-column l =
    (goal.iterator-loop-column).can_next l.column-iterator ×
    (goal.iterator-loop-column).is_finite l.column-iterator ×
    (each (zip (drop (length l.yielded) l.columns) (drop (length l.yielded) l.values)) (λ pair. takes pair.0 pair.1) ≡ each (zip l.columns l.values) (λ pair. takes pair.0 pair.1))
