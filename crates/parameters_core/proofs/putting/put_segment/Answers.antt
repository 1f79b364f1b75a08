use Rattle.std.proofs.Common.{◌+◌, List, ℕ, length, refl, ap, ◌∙◌, subst, arith, get_or}
use Rattle.std.proofs.lemmas.List.{take_all}
use Rattle.parameters_core.specs.Filling.{as_line, line_byte}
use Rattle.parameters_core.specs.Putting.{IsPut, IsPutFault}
use Rattle.parameters_core.proofs.Puts.{exit, put_none, next_line, fault_line}
use Rattle.parameters_core.proofs.Quotes.{one_turn}
use Rattle.parameters_core.proofs.putting.put_segment.Goals as goal

pub loop-i-init : goal.loop-i-init
loop-i-init c = (refl, put_none c.args.line.now.items c.requires)

pub loop-i-preserved : goal.loop-i-preserved
loop-i-preserved c =
    let segment = c.args.segment.now in (
      one_turn segment c.loop-i.i c.loop-i.is_inside c.inside_behind-is_inside.result c.loop-i.invariant.0 c.loop-i-test.true c.inside_behind-is_inside.ensures,
      next_line segment c.loop-i.i c.loop-i-test.true c.args.line.now.items c.loop-i.line.items c.put.new.line.items c.in_line.result
          (c.in_line.ensures ∙ ap (λ q. line_byte q (get_or segment c.loop-i.i 0)) c.loop-i.invariant.0) c.loop-i.invariant.1 c.in_ok-put.ensures.put,
    )

pub returns-in_err-put-clause-faulty : goal.returns-in_err-put-clause-faulty
returns-in_err-put-clause-faulty c =
    exit (IsPutFault (length c.args.line.now.items + length (as_line c.args.segment.now))) _ _ c.from_residual.ensures.1
    (fault_line c.args.segment.now c.loop-i.i c.loop-i-test.true c.args.line.now.items c.loop-i.line.items _ c.loop-i.invariant.1 c.in_err-put.ensures.faulty)

pub returns-clause-put : goal.returns-clause-put
returns-clause-put c = subst (λ (x : List ℕ). IsPut (as_line x) c.args.line.now.items c.loop-i.line.items) (take_all c.loop-i.i c.args.segment.now (omega arith)) c.loop-i.invariant.1
