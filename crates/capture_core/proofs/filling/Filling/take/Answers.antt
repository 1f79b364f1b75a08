use Rattle.std.proofs.Common.{◌≤◌, length, refl, ap, arith}
use Rattle.capture_core.specs.Filling.{Filled}
use Rattle.capture_core.proofs.GivenLemmas.{given-all, given-none_left}
use Rattle.capture_core.proofs.TakingLemmas.{passes-same, passes-then}
use Rattle.capture_core.proofs.filling.Filling.take.Goals as goal

pub loop-taken-init : goal.loop-taken-init
loop-taken-init c = record {
  passes = passes-same c.args.tables.now c.args.tables.now c.args.self.now c.args.self.now c.requires refl refl;
  few = omega arith;
  rest = omega arith;
}

pub loop-taken-preserved : goal.loop-taken-preserved
loop-taken-preserved c =
    let k = c.loop-taken.invariant in
    let e = c.in_ok-taken.ensures in
    record {
      passes = passes-then k.passes c.take_next.ensures.passes;
      few = omega (arith, e.few, k.few);
      rest = omega (arith, e.rest, k.rest);
    }

pub returns-in_err-taken-clause-passes : goal.returns-in_err-taken-clause-passes
returns-in_err-taken-clause-passes c = passes-then c.loop-taken.invariant.passes c.take_next.ensures.passes

pub returns-in_err-taken-clause-fewer : goal.returns-in_err-taken-clause-fewer
returns-in_err-taken-clause-fewer c = omega (arith, c.loop-taken.invariant.rest, c.take_next.ensures.fewer)

pub returns-else-len-covered-clause-count : goal.returns-else-len-covered-clause-count
returns-else-len-covered-clause-count c =
    let k = c.loop-taken.invariant in
    let rest = c.loop-taken.tables.rest in
    let whole = c.loop-taken.self.whole in
    let same = ap (λ (f : Filled). length f.whole) c.self.view_is in
    let all : length rest ≤ length whole = omega (arith, c.if-len-covered.false, c.covered.ensures.count, c.len.ensures, same) in
    let none = given-none_left rest (given-all rest (length whole) all k.passes.given) in
    omega (arith, none, k.rest, k.few)
