use Rattle.std.proofs.Common.{◌≡◌, ◌≤◌, ℕ, List, length, ap, ◌∙◌, arith}
use Rattle.messages_core.specs.Columns.{column_in}
use Rattle.messages_core.specs.declared.rows.ColumnDescription.{ColumnDescription}
use Rattle.messages_core.proofs.Described.{described_length, name_few}
use Rattle.messages_core.proofs.columns.column_in.Goals as goal

pub returns-clause-short : goal.returns-clause-short
returns-clause-short c =
    let column : ColumnDescription = record { name = c.new.result; ty = c.args.column.now.ty; format = c.args.format } in
    let name : c.new.result ≡ c.args.column.now.name = c.new.ensures ∙ c.as_bytes.ensures.value in
    omega (arith, described_length column, ap (λ (t : List ℕ). length t) name, name_few c.args.column.now.name c.as_bytes.ensures.name)
