use Rattle.std.proofs.Common.{◌≡◌}
use Rattle.std.specs.Prelude.{Some, []}
use Rattle.server_core.specs.Sessions.{Attended}
use Rattle.server_core.proofs.worker.work.Given as goal

-- the pass is one of the desk, sessions alone went through it, the token counts them, and nothing is gathered
abbrev pub invariant-loop : goal.invariant-loop
invariant-loop g l = record {
  own : l.pass.lock ≡ Some l.desk;
  part : l.token.parts ≡ 1;
  nothing : l.room ≡ [];
  served : Attended g.I.Session.SessionMachine.protocol l.service.entrance.now l.desk (record { pass = l.initial.pass; sessions = l.initial.token.amount }) (record { pass = l.pass; sessions = l.token.amount });
}
