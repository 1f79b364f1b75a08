use Rattle.std.proofs.Common.{arith}
use Rattle.login_core.proofs.Pads.{step, whole}
use Rattle.login_core.proofs.hmac.pad.Goals as goal

pub loop-i-preserved : goal.loop-i-preserved
loop-i-preserved c = step c.args.byte c.args.key.now c.loop-i.block c.loop-i.i c.requires c.loop-i-test.true c.loop-i.invariant

pub returns : goal.returns
returns c = whole c.args.byte c.args.key.now c.loop-i.block c.loop-i.i (omega (c.loop-i-test.false, c.loop-i.auto.i-end, arith)) c.loop-i.invariant
