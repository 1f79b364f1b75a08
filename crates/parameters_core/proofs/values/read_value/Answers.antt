use Rattle.std.proofs.Common.{Bool, IfOk, sym, subst}
use Rattle.std.proofs.lemmas.Result.{IfOk-weaker}
use Rattle.base_core.specs.declared.value.ColType.{ColType}
use Rattle.base_core.specs.declared.value.ColType.TheVariants as types
use Rattle.parameters_core.specs.Values.{AreValue}
use Rattle.parameters_core.proofs.values.read_value.Goals as goal

pub returns-in-Text-clause-value : goal.returns-in-Text-clause-value
returns-in-Text-clause-value c =
    let bytes = c.args.bytes.now in
    subst (λ (ty : ColType). IfOk c.read_text.result (AreValue ty c.args.is_binary bytes)) (sym c.in-Text.is)
    (IfOk-weaker c.read_text.result (λ value. (is_binary : Bool) → AreValue types.Text is_binary bytes value) (AreValue types.Text c.args.is_binary bytes) (λ value h. h c.args.is_binary) c.read_text.ensures.value)
