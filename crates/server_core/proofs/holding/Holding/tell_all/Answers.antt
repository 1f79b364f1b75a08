use Rattle.std.proofs.Common.{◌∙◌}
use Rattle.session_core.proofs.Growing.{Watches-trans}
use Rattle.server_core.proofs.SamePass.{looked_own}
use Rattle.server_core.proofs.holding.Holding.tell_all.Goals as goal

pub loop-held-init : goal.loop-held-init
loop-held-init g c = record {
  own = looked_own c.args.desk.now c.args.pass.now c.sync_seen.new.pass c.sync_seen.ensures.watched c.requires.pass;
  watched = c.sync_seen.ensures.watched;
  nothing = c.room.view_is ∙ c.requires.nothing;
}

pub conclude-requires-clause-pass : goal.conclude-requires-clause-pass
conclude-requires-clause-pass g c = c.loop-held.invariant.own

pub conclude-requires-clause-nothing : goal.conclude-requires-clause-nothing
conclude-requires-clause-nothing g c = c.loop-held.invariant.nothing

pub loop-held-preserved-in-Some-conclude : goal.loop-held-preserved-in-Some-conclude
loop-held-preserved-in-Some-conclude g c = record {
  own = looked_own c.args.desk.now c.loop-held.pass c.conclude.new.pass c.conclude.ensures.watched c.loop-held.invariant.own;
  watched = Watches-trans c.args.pass.now c.loop-held.pass c.conclude.new.pass c.loop-held.invariant.watched c.conclude.ensures.watched;
  nothing = c.conclude.ensures.handed_on;
}

pub loop-held-preserved : goal.loop-held-preserved
loop-held-preserved g c = record {
  own = looked_own c.args.desk.now c.loop-held.pass c.conclude.new.pass c.conclude.ensures.watched c.loop-held.invariant.own;
  watched = Watches-trans c.args.pass.now c.loop-held.pass c.conclude.new.pass c.loop-held.invariant.watched c.conclude.ensures.watched;
  nothing = c.conclude.ensures.handed_on;
}

pub returns-clause-watched : goal.returns-clause-watched
returns-clause-watched g c = c.loop-held.invariant.watched

pub returns-clause-handed_on : goal.returns-clause-handed_on
returns-clause-handed_on g c = c.loop-held.invariant.nothing
