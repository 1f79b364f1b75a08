use Rattle.std.proofs.Common.{arith, inl, inr}
use Rattle.parameters_core.proofs.Numerals.{no_digits, digit, one_more, too_great, all_summed}
use Rattle.parameters_core.proofs.places.number_of.Goals as goal

pub overflow_sub-number : goal.overflow_sub-number
overflow_sub-number c = (digit c.args.digits.now c.loop-i.i c.loop-i.number c.loop-i.invariant c.loop-i-test.true c.requires).0

pub loop-i-init : goal.loop-i-init
loop-i-init c = no_digits c.args.digits.now

pub returns-then-number-gt-MAX_NUMBER : goal.returns-then-number-gt-MAX_NUMBER
returns-then-number-gt-MAX_NUMBER c = inr (too_great c.args.digits.now c.loop-i.i c.loop-i.number c.loop-i.invariant c.loop-i-test.true c.requires (omega arith))

pub loop-i-preserved : goal.loop-i-preserved
loop-i-preserved c = one_more c.args.digits.now c.loop-i.i c.loop-i.number c.loop-i.invariant c.loop-i-test.true c.requires (omega arith)

pub returns-then-number-eq0 : goal.returns-then-number-eq0
returns-then-number-eq0 c = inl (omega (arith, all_summed c.args.digits.now c.loop-i.i c.loop-i.number c.loop-i.invariant (omega arith)))

pub returns : goal.returns
returns c =
    let whole = all_summed c.args.digits.now c.loop-i.i c.loop-i.number c.loop-i.invariant (omega arith) in
    (omega (arith, whole), omega arith, omega (arith, c.loop-i.invariant.few))
