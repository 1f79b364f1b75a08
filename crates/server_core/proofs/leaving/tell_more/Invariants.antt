use Rattle.std.proofs.Common.{◌≡◌}
use Rattle.std.specs.Prelude.{Some}
use Rattle.session_core.specs.Gains.{Watches}
use Rattle.server_core.proofs.leaving.tell_more.Given as goal

-- the pass is one of the desk, and has only looked
abbrev pub invariant-loop : goal.invariant-loop
invariant-loop g l = record { own : l.pass.lock ≡ Some l.desk; watched : Watches l.initial.pass l.pass }
