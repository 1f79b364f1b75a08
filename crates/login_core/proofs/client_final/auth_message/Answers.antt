use Rattle.std.proofs.Common.{◌∙◌}
use Rattle.std.proofs.lemmas.List.Elements.{same_from_all_zip}
use Rattle.login_core.proofs.Joins.{joined_message, if_ok}
use Rattle.login_core.proofs.client_final.auth_message.Goals as goal

pub returns : goal.returns
returns c =
    if_ok c.concat.result c.concat.ensures.ok (λ text zip. same_from_all_zip _ _ _ zip (λ x y e. e)
    ∙ joined_message c.args.bare.now c.args.server_first.now c.args.without_proof.now)
