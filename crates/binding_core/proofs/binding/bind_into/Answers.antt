use Rattle.std.proofs.Common.{List, subst, sym, rules}
use Rattle.std.specs.List.{AllZip}
use Rattle.std.proofs.lemmas.Result.{IfErr-weaker}
use Rattle.base_core.specs.declared.value.Value.{Value}
use Rattle.binding_core.specs.Binding.{IsBindFault, IsNotFilled, Suit}
use Rattle.binding_core.specs.Parameters.{IsBound, parameters}
use Rattle.binding_core.proofs.Bounds.{filling_fault}
use Rattle.binding_core.proofs.binding.bind_into.Goals as goal

pub returns-clause-faulty : goal.returns-clause-faulty
returns-clause-faulty c =
    let text = c.args.text.now in
    let types = c.args.types.now in
    let codes = c.args.formats.now in
    let sent = c.args.values.now in
    let values = c.as_slice.result.now in
    let suits : Suit text types codes sent = search rules in
    let bound = subst (λ (vs : List Value). AllZip IsBound (parameters types codes sent) vs) (sym c.as_slice.ensures.value) c.in_ok-read_parameters.ensures.values in
    IfErr-weaker c.fill_line.result (IsNotFilled text values) (IsBindFault text types codes sent)
    (λ e f. subst (IsBindFault text types codes sent) (sym f.2) (filling_fault text types codes sent values f.0 suits bound f.1))
    c.fill_line.ensures.faulty
