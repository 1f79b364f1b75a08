use Rattle.std.proofs.Common.{◌∙◌}
use Rattle.std.proofs.lemmas.List.Elements.{same_from_all_zip}
use Rattle.login_core.proofs.Joins.{joined_front, if_ok}
use Rattle.login_core.proofs.client_final.without_proof.Goals as goal

pub returns : goal.returns
returns c =
    if_ok c.concat.result c.concat.ensures.ok (λ text zip. same_from_all_zip _ _ _ zip (λ x y e. e)
    ∙ joined_front c.as_slice.result.now c.args.channel_binding.now c.args.nonce.now c.as_slice.ensures)
