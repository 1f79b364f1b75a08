use Rattle.std.proofs.Common.{◌≡◌}
use Rattle.server_core.proofs.syncing.Syncing.is_reached.Given as goal

-- nothing was done through the pass yet
abbrev pub invariant-loop : goal.invariant-loop
invariant-loop g l = l.pass ≡ l.initial.pass
