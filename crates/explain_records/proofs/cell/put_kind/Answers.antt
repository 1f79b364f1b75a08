use Rattle.std.proofs.Common.{◌∙◌, codes, rules, sym, subst}
use Rattle.export_core.specs.Record.{IsPlain}
use Rattle.explain_records.proofs.Plain.{IsPlain-around}
use Rattle.explain_records.proofs.cell.put_kind.Goals as goal

pub put_field-requires-clause-plain : goal.put_field-requires-clause-plain
put_field-requires-clause-plain c =
    let open_mark : IsPlain (codes "SELECT(") = search rules in
    let close_mark : IsPlain (codes ")") = search rules in
    subst IsPlain (sym (c.as_slice.ensures.value ∙ c.name_in.ensures.text)) (IsPlain-around (codes "SELECT(") c.in-Select.column (codes ")") open_mark c.name_in.ensures.name close_mark)

pub put_field-requires-in-Update-clause-plain : goal.put_field-requires-in-Update-clause-plain
put_field-requires-in-Update-clause-plain c =
    let open_mark : IsPlain (codes "UPDATE(") = search rules in
    let close_mark : IsPlain (codes ")") = search rules in
    subst IsPlain (sym (c.as_slice-in-Update.ensures.value ∙ c.name_in-in-Update.ensures.text)) (IsPlain-around (codes "UPDATE(") c.in-Update.column (codes ")") open_mark c.name_in-in-Update.ensures.name close_mark)
