use Rattle.std.proofs.Common.{◌++◌, map, ap, sym, ◌∙◌}
use Rattle.std.proofs.lemmas.Result.{on_ok_weaker}
use Rattle.export_core.specs.Record.{more_text, text_in}
use Rattle.export_core.proofs.Cutting.{cut-each}
use Rattle.export_core.proofs.cut_record.put_marked.Goals as goal

-- what is not cut
pub returns-in-None-clause-text : goal.returns-in-None-clause-text
returns-in-None-clause-text g c =
    on_ok_weaker c.put_fields.result
    (λ written. written ∙ ap (λ fields. text_in c.args.writer.now ++ more_text (map g.F.Field.bytes fields)) (sym (cut-each c.args.marks.now c.args.fields.now c.in-None.ensures)))
    c.put_fields.ensures.text
