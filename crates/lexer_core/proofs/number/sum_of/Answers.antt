use Rattle.std.proofs.Common.{arith, refl}
use Rattle.lexer_core.proofs.Sums.{below_all, below_more, digit, one_digit}
use Rattle.lexer_core.proofs.number.sum_of.Goals as goal

pub overflow_mul-sum : goal.overflow_mul-sum
overflow_mul-sum c = omega (arith, below_all c.args.digits.now c.loop-i.i c.loop-i.sum c.loop-i.invariant c.loop-i-test.true c.requires.digits c.requires.few)

pub overflow_sub-sum : goal.overflow_sub-sum
overflow_sub-sum c = (digit c.args.digits.now c.loop-i.i c.loop-i.sum c.loop-i.invariant c.loop-i-test.true c.requires.digits).0

pub overflow_add-sum : goal.overflow_add-sum
overflow_add-sum c = omega (arith, below_all c.args.digits.now c.loop-i.i c.loop-i.sum c.loop-i.invariant c.loop-i-test.true c.requires.digits c.requires.few)

pub loop-i-init : goal.loop-i-init
loop-i-init c = record { left = refl; below = omega arith }

pub loop-i-preserved : goal.loop-i-preserved
loop-i-preserved c = one_digit c.args.digits.now c.loop-i.i c.loop-i.sum c.loop-i.invariant c.loop-i-test.true c.requires.digits

pub returns-clause-small : goal.returns-clause-small
returns-clause-small c = below_more c.loop-i.i c.loop-i.sum c.loop-i.invariant.below (omega arith)
