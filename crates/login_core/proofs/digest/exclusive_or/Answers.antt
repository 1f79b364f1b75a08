use Rattle.std.proofs.Common.{arith}
use Rattle.std.proofs.lemmas.List.{length-set}
use Rattle.std.proofs.Common.{◌∙◌}
use Rattle.login_core.proofs.ExclusiveOr.{step, whole}
use Rattle.login_core.proofs.digest.exclusive_or.Goals as goal

pub loop-i-preserved : goal.loop-i-preserved
loop-i-preserved c = (
  step c.args.first.now c.args.second.now c.loop-i.both c.loop-i.i
      (omega (c.loop-i-test.true, c.told-first, arith)) (omega (c.loop-i-test.true, c.told-second, arith))
      (omega (c.loop-i-test.true, c.loop-i.invariant.1, arith)) c.loop-i.invariant.0,
  length-set _ _ _ ∙ c.loop-i.invariant.1,
)

pub returns : goal.returns
returns c = whole c.args.first.now c.args.second.now c.loop-i.both c.loop-i.i
    (omega (c.loop-i-test.false, c.loop-i.auto.i-end, c.told-first, arith))
    (omega (c.loop-i-test.false, c.loop-i.auto.i-end, c.told-second, arith))
    (omega (c.loop-i-test.false, c.loop-i.auto.i-end, c.loop-i.invariant.1, arith)) c.loop-i.invariant.0
