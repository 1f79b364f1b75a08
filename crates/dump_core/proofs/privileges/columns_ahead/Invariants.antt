use Rattle.std.proofs.Common.{◌≡◌, ◌++◌, drop}
use Rattle.dump_core.specs.Kinds.{columns_ahead}
use Rattle.dump_core.proofs.privileges.columns_ahead.Given as goal

-- the columns so far, and those ahead
abbrev pub invariant-loop-kind : goal.invariant-loop-kind
invariant-loop-kind l =
    l.columns.items ++ columns_ahead l.by (drop l.kind-index l.kinds) ≡ columns_ahead l.by l.kinds
