use Rattle.std.proofs.Common.{◌≡◌}
use Rattle.std.specs.Prelude.{Some}
use Rattle.server_core.specs.Sessions.{ServesPieces}
use Rattle.server_core.proofs.conversing.converse.Given as goal

-- the pass is one of the desk, and pieces of sessions alone went through it
abbrev pub invariant-loop : goal.invariant-loop
invariant-loop g l = record {
  own : l.pass.lock ≡ Some l.desk;
  served : ServesPieces g.I.Session.SessionMachine.protocol g.I.Instance.by l.desk l.initial.pass l.pass;
}
