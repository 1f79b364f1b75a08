use Rattle.std.proofs.Common.{◌≡◌, ◌≤◌, drop}
use Rattle.dump_core.proofs.Fitting.{fits}
use Rattle.dump_core.proofs.privileges.takes_column.Given as goal

-- with so many columns of the word so far, the others decide
abbrev pub invariant-loop-kind : goal.invariant-loop-kind
invariant-loop-kind l =
    (fits l.by l.column l.count (drop l.kind-index l.kinds) ≡ fits l.by l.column 0 l.kinds)
    × (l.count ≤ l.kind-index)
