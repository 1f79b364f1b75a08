use Rattle.std.proofs.Common.{◌≡◌}
use Rattle.acceptance.proofs.gates.wait.Given as goal

-- it is a pass of the same desk
abbrev pub invariant-loop : goal.invariant-loop
invariant-loop g l = l.pass.lock ≡ l.fn.pass.lock
