use Rattle.std.proofs.Common.{◌∷◌, ◌++◌, ◌∙◌, ap, map}
use Rattle.std.proofs.lemmas.Result.{on_ok_weaker}
use Rattle.export_core.specs.Record.{record_line, text_in}
use Rattle.explain_records.specs.Cells.{cell_text}
use Rattle.explain_records.proofs.past.Numbered.put_grant.Goals as goal

pub returns-clause-text : goal.returns-clause-text
returns-clause-text c =
    on_ok_weaker c.put_line.result
    (λ written.
    written ∙ ap (λ table. text_in c.args.writer.now ++ record_line (table ∷ map cell_text c.grant_of.result)) c.as_bytes.ensures.value
    ∙ ap (λ fields. text_in c.args.writer.now ++ record_line fields) c.grant_of.ensures)
    c.put_line.ensures.text
