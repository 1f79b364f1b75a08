use Rattle.std.proofs.Common.{List, subst}
use Rattle.base_core.specs.declared.value.Value.{Value}
use Rattle.parameters_core.specs.Filling.{IsFillFault}
use Rattle.binding_core.proofs.Pushes.{exit}
use Rattle.preparing_core.specs.Guessing.{IsUnnumbered, refused}
use Rattle.preparing_core.proofs.Unfilled.{not_filled}
use Rattle.preparing_core.proofs.guessing.numbered_statement.Goals as goal

pub returns-in_err-values-clause-faulty : goal.returns-in_err-values-clause-faulty
returns-in_err-values-clause-faulty c =
    exit (IsUnnumbered c.args.text.now c.args.first c.args.count) c.from_residual.result _ c.from_residual.ensures.1 refused

pub returns-in_err-fill-clause-faulty : goal.returns-in_err-fill-clause-faulty
returns-in_err-fill-clause-faulty c =
    let text = c.args.text.now in
    let fault = c.in_err-fill.field-0.0 in
    let unfilled = subst (λ (vs : List Value). IsFillFault text vs fault) c.as_slice.ensures.value c.in_err-fill.ensures.faulty in
    exit (IsUnnumbered text c.args.first c.args.count) c.from_residual-in_err-fill.result _ c.from_residual-in_err-fill.ensures.1
    (not_filled text c.args.first c.args.count c.in_ok-values.values.items fault c.requires c.in_ok-values.ensures.count c.in_ok-values.ensures.numbers unfilled)

pub returns-clause-faulty : goal.returns-clause-faulty
returns-clause-faulty c = refused
