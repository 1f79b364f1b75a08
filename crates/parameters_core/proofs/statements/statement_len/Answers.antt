use Rattle.std.proofs.Common.{◌≤◌, length, sym, ◌∙◌, refl, arith}
use Rattle.parameters_core.proofs.Cuts.{one_before, one_byte, end_here}
use Rattle.parameters_core.proofs.statements.statement_len.Goals as goal

pub loop-at-init : goal.loop-at-init
loop-at-init c = (refl, λ k h e. absurd (omega (arith, h)))

pub returns-then-ends_statement : goal.returns-then-ends_statement
returns-then-ends_statement c =
    let inside : c.loop-at.at ≤ length c.args.text.now = omega arith in
    let end = end_here c.loop-at.is_inside _ (sym c.ends_statement.ensures ∙ c.if-ends_statement.true) in
    record {
      within = inside;
      one = one_before c.args.text.now c.loop-at.at inside c.loop-at.invariant.1;
      closed = λ h. sym c.loop-at.invariant.0 ∙ end.1;
      ends = λ h. end.0;
    }

pub loop-at-preserved : goal.loop-at-preserved
loop-at-preserved c =
    one_byte c.args.text.now c.loop-at.at c.loop-at.is_inside c.inside_behind-is_inside.result c.loop-at.invariant.0 c.loop-at.invariant.1 (omega arith) (sym c.ends_statement.ensures ∙ c.if-ends_statement.false) c.inside_behind-is_inside.ensures

pub returns-clause-one : goal.returns-clause-one
returns-clause-one c = one_before c.args.text.now (length c.args.text.now) (omega arith) (λ k h. c.loop-at.invariant.1 k (omega (arith, h)))
