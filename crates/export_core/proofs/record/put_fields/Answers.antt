use Rattle.std.proofs.Common.{◌++◌, ◌∷◌, ap, ◌∙◌}
use Rattle.export_core.specs.Record.{field_text, text_in}
use Rattle.export_core.proofs.Fields.{more_text-more}
use Rattle.export_core.proofs.record.put_fields.Goals as goal

pub loop-field-preserved : goal.loop-field-preserved
loop-field-preserved g c =
    let bytes = g.F.Field.bytes in
    let step = c.in_ok-put.ensures in
    let grown = step.text ∙ ap (λ f. text_in c.loop-field.writer ++ 44 ∷ field_text (bytes f)) c.field-item.is in
    record {
      written = more_text-more bytes c.args.fields.now c.loop-field.field-index c.field-item.result (text_in c.args.writer.now) (text_in c.loop-field.writer) (text_in c.put.new.writer)
          c.loop-field-test.true c.loop-field.invariant.written grown;
      begun = step.begun;
    }
