use Rattle.std.proofs.Common.{◌∙◌}
use Rattle.server_core.specs.Sessions.{looked}
use Rattle.server_core.proofs.SamePass.{pieces_same}
use Rattle.server_core.proofs.attending.go_on_and_tell.Goals as goal

pub conclude-requires-clause-pass : goal.conclude-requires-clause-pass
conclude-requires-clause-pass g c = (pieces_same g.I.Session.SessionMachine.protocol g.I.Instance.by c.args.desk.now c.args.pass.now c.go_on-outcome.new.pass c.go_on-outcome.ensures).0 ∙ c.requires.pass

pub returns-then-is_empty-clause-pieces : goal.returns-then-is_empty-clause-pieces
returns-then-is_empty-clause-pieces g c = looked c.go_on-outcome.new.pass c.conclude.new.pass c.go_on-outcome.ensures c.conclude.ensures.watched

pub hold-requires-clause-pass : goal.hold-requires-clause-pass
hold-requires-clause-pass g c = (pieces_same g.I.Session.SessionMachine.protocol g.I.Instance.by c.args.desk.now c.args.pass.now c.go_on-outcome.new.pass c.go_on-outcome.ensures).0 ∙ c.requires.pass

pub returns-then-is_asked-clause-pieces : goal.returns-then-is_asked-clause-pieces
returns-then-is_asked-clause-pieces g c = looked c.go_on-outcome.new.pass c.hold.new.pass c.go_on-outcome.ensures c.hold.ensures.watched

pub tell-requires-clause-pass : goal.tell-requires-clause-pass
tell-requires-clause-pass g c = (pieces_same g.I.Session.SessionMachine.protocol g.I.Instance.by c.args.desk.now c.args.pass.now c.go_on-outcome.new.pass c.go_on-outcome.ensures).0 ∙ c.requires.pass

pub returns-clause-pieces : goal.returns-clause-pieces
returns-clause-pieces g c = looked c.go_on-outcome.new.pass c.tell.new.pass c.go_on-outcome.ensures c.tell.ensures.watched
