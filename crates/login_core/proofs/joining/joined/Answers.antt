use Rattle.std.proofs.Common.{◌++◌, ◌∙◌, ap, append-nil}
use Rattle.std.proofs.lemmas.List.Elements.{same_from_all_zip}
use Rattle.login_core.proofs.Joins.{if_ok}
use Rattle.login_core.proofs.joining.joined.Goals as goal

pub returns : goal.returns
returns c =
    if_ok c.concat.result c.concat.ensures.ok (λ text zip. same_from_all_zip _ _ _ zip (λ x y e. e)
    ∙ ap (λ b. c.args.front.now ++ b) (append-nil c.args.behind.now))
