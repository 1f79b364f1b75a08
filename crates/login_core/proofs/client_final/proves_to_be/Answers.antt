use Rattle.std.proofs.Common.{rules}
use Rattle.base64.specs.Engines.{standard}
use Rattle.base64.specs.GeneralPurpose.{encode_of}
use Rattle.login_core.proofs.LastMessages.{came, text_is, proof_long, shown_by}
use Rattle.login_core.proofs.client_final.proves_to_be.Goals as goal

pub returns-in_default : goal.returns-in_default
returns-in_default c = (λ yes. absurd (search rules), λ p. absurd (c.in_default.ensures (encode_of standard p.0) p.2))

pub returns-in_default-2 : goal.returns-in_default-2
returns-in_default-2 c =
    let none = rw c.in_default-2.is at c.in_ok-proof.ensures in (
      λ yes. absurd (search rules),
      λ p. absurd (none p.0 (p.1, proof_long c.args.stored.now c.args.front.now c.args.said.now c.args.message.now p)
          (text_is c.args.stored.now c.args.front.now c.args.said.now c.args.message.now c.in-Some.text.now c.in-Some.ensures p)),
    )

pub returns : goal.returns
returns c =
    let gives = rw c.in-Some-2.is at c.in_ok-proof.ensures in (
      λ yes. came c.args.stored.now c.args.front.now c.args.said.now c.args.message.now c.in-Some.text.now c.in-Some-2.proof
          c.in-Some.ensures gives.0 gives.1 (c.proves.ensures.0 yes),
      λ p. c.proves.ensures.1 (shown_by c.args.stored.now c.args.front.now c.args.said.now c.args.message.now c.in-Some-2.proof p
          (gives.2 p.0 p.1 (text_is c.args.stored.now c.args.front.now c.args.said.now c.args.message.now c.in-Some.text.now c.in-Some.ensures p))),
    )
