use Rattle.base64.specs.Engines.{standard}
use Rattle.base64.specs.GeneralPurpose.{encode_of}
use Rattle.login_core.specs.Verifiers.{keys_text}
use Rattle.login_core.proofs.Spelling.{cut_is, no_dollar}
use Rattle.login_core.proofs.reading.read_salted.Goals as goal

pub returns-in_default-2 : goal.returns-in_default-2
returns-in_default-2 c = λ salt stored server b s v e.
    let at = cut_is 36 c.args.text.now c.in-Some.front.now c.in-Some.behind.now (encode_of standard salt) (keys_text stored server)
    c.in-Some.ensures e (no_dollar salt)
    in let none = rw c.in_default-2.is at c.in_ok-salt.ensures
    in none salt b at.0

pub returns-in_default-3 : goal.returns-in_default-3
returns-in_default-3 c = λ salt stored server b s v e.
    let at = cut_is 36 c.args.text.now c.in-Some.front.now c.in-Some.behind.now (encode_of standard salt) (keys_text stored server)
    c.in-Some.ensures e (no_dollar salt)
    in let none = rw c.in_default-3.is at c.in_ok-keys.ensures
    in none stored server s v at.1
