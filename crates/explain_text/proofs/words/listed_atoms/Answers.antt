use Rattle.std.proofs.Common.{◌∙◌, ap, map, sym}
use Rattle.base_core.specs.declared.value.Column.{Column}
use Rattle.monitor_core.specs.Atoms.{columns_given, of_column}
use Rattle.explain_core.proofs.ListLemmas.{map-map}
use Rattle.explain_text.proofs.words.listed_atoms.Goals as goal

pub returns-in_default : goal.returns-in_default
returns-in_default c =
    let columns = c.args.columns.now in
    let of = of_column c.args.by c.args.table in
    c.in_ok-column_atoms.ensures ∙ sym (map-map of (λ (column : Column). column.name) columns)
    ∙ ap (λ listed. map of (columns_given columns listed)) (sym c.in_default.is)
