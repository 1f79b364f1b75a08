use Rattle.std.proofs.Common.{◌≡◌, true, replicate, length, sym, ap, ◌∙◌, rules}
use Rattle.std.specs.List.{list_all}
use Rattle.export_core.proofs.Cutting.{each-all}
use Rattle.export_core.proofs.marks.Marks.of.Goals as goal

pub returns-then-all_set : goal.returns-then-all_set
returns-then-all_set c =
    let marks = c.args.marks.items in
    let many : c.len.result ≡ length marks = search rules in
    c.all.ensures
    ∙ ap (λ n. replicate n true) many
    ∙ each-all marks (sym (ap (list_all (λ mark. mark)) c.deref.ensures.value) ∙ sym c.all_set.ensures ∙ c.if-all_set.true)
