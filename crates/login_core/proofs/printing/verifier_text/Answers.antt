use Rattle.std.proofs.Common.{◌∙◌, ap, decimal}
use Rattle.std.proofs.lemmas.List.Elements.{same_from_all_zip}
use Rattle.base64.specs.Engines.{standard}
use Rattle.base64.specs.GeneralPurpose.{encode_of}
use Rattle.login_core.proofs.Joins.{joined_verifier, if_ok}
use Rattle.login_core.proofs.printing.verifier_text.Goals as goal

pub returns : goal.returns
returns c =
    let v = c.args.verifier.now in
    if_ok c.concat.result c.concat.ensures.ok (λ text zip. same_from_all_zip _ _ _ zip (λ x y e. e)
    ∙ joined_verifier c.as_slice-2.result.now c.as_bytes-count.result.now (decimal v.iterations)
    c.as_bytes-salt.result.now (encode_of standard v.salt.items) c.as_bytes-stored.result.now (encode_of standard v.stored_key)
    c.as_bytes-server.result.now (encode_of standard v.server_key)
    c.as_slice-2.ensures (c.as_bytes-count.ensures.value ∙ c.format.ensures.text)
    (c.as_bytes-salt.ensures.value ∙ c.in_ok-salt.ensures.text ∙ ap (encode_of standard) c.as_slice.ensures.value)
    (c.as_bytes-stored.ensures.value ∙ c.in_ok-stored.ensures.text) (c.as_bytes-server.ensures.value ∙ c.in_ok-server.ensures.text))
