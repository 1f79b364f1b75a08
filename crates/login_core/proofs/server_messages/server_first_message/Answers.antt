use Rattle.std.proofs.Common.{◌∙◌, decimal}
use Rattle.std.proofs.lemmas.List.Elements.{same_from_all_zip}
use Rattle.base64.specs.Engines.{standard}
use Rattle.base64.specs.GeneralPurpose.{encode_of}
use Rattle.login_core.proofs.Joins.{joined_challenge, if_ok}
use Rattle.login_core.proofs.server_messages.server_first_message.Goals as goal

pub returns : goal.returns
returns c =
    if_ok c.concat.result c.concat.ensures.ok (λ text zip. same_from_all_zip _ _ _ zip (λ x y e. e)
    ∙ joined_challenge c.as_slice.result.now c.args.nonce.now c.as_bytes.result.now (encode_of standard c.args.salt.now)
    c.as_bytes-count.result.now (decimal c.args.iterations) c.as_slice.ensures
    (c.as_bytes.ensures.value ∙ c.in_ok-encoded.ensures.text) (c.as_bytes-count.ensures.value ∙ c.format.ensures.text))
