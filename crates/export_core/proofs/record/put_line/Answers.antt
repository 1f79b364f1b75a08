use Rattle.std.proofs.Common.{◌∙◌, map}
use Rattle.std.proofs.lemmas.Result.{on_ok_weaker}
use Rattle.export_core.specs.Record.{text_in}
use Rattle.export_core.proofs.Fields.{record_line-from_fields}
use Rattle.export_core.proofs.record.put_line.Goals as goal

pub returns-clause-text : goal.returns-clause-text
returns-clause-text g c =
    on_ok_weaker c.end.result
    (λ ended. ended ∙ record_line-from_fields (text_in c.args.writer.now) c.args.first.now _ _ (map g.F.Field.bytes c.args.fields.now) c.in_ok-begin.ensures.text c.in_ok-put_fields.ensures.text)
    c.end.ensures.text
