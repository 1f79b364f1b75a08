use Rattle.std.proofs.Common.{ℕ, List, ◌∙◌, ◌∷◌, ◌++◌, codes, map, ap}
use Rattle.std.proofs.lemmas.Result.{IfOk-weaker}
use Rattle.base_core.specs.declared.value.Column.{Column}
use Rattle.export_core.specs.Export.{cut, table_line}
use Rattle.export_core.specs.Record.{more_text, text_in}
use Rattle.export_core.proofs.Cutting.{cut-map}
use Rattle.export_core.proofs.Fields.{record_line-from_fields, more_text-cons}
use Rattle.export_core.proofs.lines.table_line.Goals as goal

pub returns : goal.returns
returns c =
    let table = c.args.table.now in
    let named : List Column → List (List ℕ) = map (λ (column : Column). column.name) in
    let marks = c.args.marks.now in
    let names = cut marks (named table.columns) in
    let columns = c.in_ok-put_marked.ensures.text ∙ ap (λ columns. text_in c.put.new.writer ++ more_text (named (cut marks columns))) c.as_slice.ensures
    ∙ ap (λ columns. text_in c.put.new.writer ++ more_text columns) (cut-map (λ (column : Column). column.name) marks table.columns) in
    IfOk-weaker c.finish.result _ _
    (λ line made.
    made
    ∙ c.in_ok-end.ensures.text
    ∙ record_line-from_fields (text_in c.writer_after-writer.result) (codes "table") _ _ (table.name ∷ names) c.in_ok-begin.ensures.text
    (more_text-cons _ _ _ table.name names c.in_ok-put.ensures.text columns)
    ∙ ap (λ start. start ++ table_line marks table) (c.writer_after-writer.ensures.text ∙ c.new.ensures.items))
    c.finish.ensures
