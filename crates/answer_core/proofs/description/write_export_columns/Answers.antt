use Rattle.std.proofs.Common.{◌≡◌, List, [], ◌∷◌, codes, ap, ◌∙◌}
use Rattle.base_core.specs.declared.value.ColType.TheVariants as types
use Rattle.base_core.proofs.Fronts.{text-same}
use Rattle.messages_core.specs.Rows.{row_description}
use Rattle.messages_core.specs.declared.rows.ColumnDescription.{ColumnDescription}
use Rattle.messages_core.specs.declared.rows.Format.{Format}
use Rattle.answer_core.specs.RowTexts.{column_named, export_columns}
use Rattle.answer_core.proofs.description.write_export_columns.Goals as goal

pub returns : goal.returns
returns g c =
    let fs = c.args.formats.now in
    let line : c.column.result ≡ column_named (codes "line") types.Text fs 0 =
    c.column.ensures ∙ ap (λ (f : List Format). column_named (codes "line") types.Text f 0) c.as_slice.ensures.formats in
    text-same g.W.Sink.failed g.W.Sink.taken _ _ (row_description (c.column.result ∷ [])) (row_description (export_columns fs)) c.write_row_description.result
    (ap (λ (x : ColumnDescription). row_description (x ∷ [])) line) c.write_row_description.ensures
