use Rattle.std.proofs.Common.{◌∙◌}
use Rattle.std.proofs.lemmas.List.Elements.{same_from_all_zip}
use Rattle.entry_core.proofs.Opened.{joined_line, if_ok}
use Rattle.entry_core.proofs.first_step.login_line.Goals as goal

pub returns : goal.returns
returns c =
    if_ok c.concat.result c.concat.ensures.ok (λ text zip. same_from_all_zip _ _ _ zip (λ x y e. e)
    ∙ joined_line c.as_slice.result.now c.args.user.now c.args.first.now c.as_slice.ensures)
