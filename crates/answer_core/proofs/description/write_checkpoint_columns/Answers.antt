use Rattle.std.proofs.Common.{◌≡◌, List, [], ◌∷◌, codes, ap, ◌∙◌}
use Rattle.base_core.specs.declared.value.ColType.TheVariants as types
use Rattle.base_core.proofs.Fronts.{text-same}
use Rattle.messages_core.specs.Rows.{row_description}
use Rattle.messages_core.specs.declared.rows.ColumnDescription.{ColumnDescription}
use Rattle.messages_core.specs.declared.rows.Format.{Format}
use Rattle.answer_core.specs.RowTexts.{checkpoint_columns, column_named}
use Rattle.answer_core.proofs.description.write_checkpoint_columns.Goals as goal

pub returns : goal.returns
returns g c =
    let fs = c.args.formats.now in
    let given = c.as_slice-formats.ensures.formats in
    let state : c.column.result ≡ column_named (codes "state") types.Text fs 0 =
    c.column.ensures ∙ ap (λ (f : List Format). column_named (codes "state") types.Text f 0) given in
    let number : c.column-2.result ≡ column_named (codes "n") types.Integer fs 1 =
    c.column-2.ensures ∙ ap (λ (f : List Format). column_named (codes "n") types.Integer f 1) given in
    let point : c.column-3.result ≡ column_named (codes "point") types.Integer fs 2 =
    c.column-3.ensures ∙ ap (λ (f : List Format). column_named (codes "point") types.Integer f 2) given in
    let left : c.column-4.result ≡ column_named (codes "left") types.Integer fs 3 =
    c.column-4.ensures ∙ ap (λ (f : List Format). column_named (codes "left") types.Integer f 3) given in
    let told =
    ap (λ (x : ColumnDescription). row_description (x ∷ c.column-2.result ∷ c.column-3.result ∷ c.column-4.result ∷ [])) state
    ∙ ap (λ (x : ColumnDescription). row_description (column_named (codes "state") types.Text fs 0 ∷ x ∷ c.column-3.result ∷ c.column-4.result ∷ [])) number
    ∙ ap (λ (x : ColumnDescription). row_description (column_named (codes "state") types.Text fs 0 ∷ column_named (codes "n") types.Integer fs 1 ∷ x ∷ c.column-4.result ∷ [])) point
    ∙ ap (λ (x : ColumnDescription). row_description (column_named (codes "state") types.Text fs 0 ∷ column_named (codes "n") types.Integer fs 1 ∷ column_named (codes "point") types.Integer fs 2 ∷ x ∷ [])) left in
    text-same g.W.Sink.failed g.W.Sink.taken _ _ (row_description (c.column.result ∷ c.column-2.result ∷ c.column-3.result ∷ c.column-4.result ∷ []))
    (row_description (checkpoint_columns fs)) c.write_row_description.result told c.write_row_description.ensures
