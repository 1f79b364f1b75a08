use Rattle.std.proofs.Common.{◌≡◌, ℕ, List, rules, sym, ap, ◌∙◌}
use Rattle.std.specs.Fmt.{signed_decimal}
use Rattle.base_core.specs.declared.value.Value.{Value}
use Rattle.base_core.proofs.Fronts.{text-same}
use Rattle.export_core.specs.Record.{field_text, value_field}
use Rattle.reply_core.proofs.Fields.{field_text-signed}
use Rattle.reply_core.proofs.records.write_value.Goals as goal

pub returns-in-Int : goal.returns-in-Int
returns-in-Int g c =
    let digits : c.as_bytes.result.now ≡ signed_decimal c.in-Int.number = search rules in
    let told : c.as_bytes.result.now ≡ field_text (value_field c.args.value.now) =
    digits ∙ sym (field_text-signed c.in-Int.number (search rules)) ∙ ap (λ (v : Value). field_text (value_field v)) (sym c.in-Int.is) in
    text-same g.W.Sink.failed g.W.Sink.taken _ _ c.as_bytes.result.now (field_text (value_field c.args.value.now)) c.write_all.result told c.write_all.ensures
