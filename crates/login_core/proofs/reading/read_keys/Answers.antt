use Rattle.base64.specs.Engines.{standard}
use Rattle.base64.specs.GeneralPurpose.{encode_of}
use Rattle.login_core.proofs.Spelling.{cut_is, no_colon}
use Rattle.login_core.proofs.reading.read_keys.Goals as goal

pub returns-in_default-2 : goal.returns-in_default-2
returns-in_default-2 c = λ stored server s v e.
    let at = cut_is 58 c.args.text.now c.in-Some.front.now c.in-Some.behind.now (encode_of standard stored) (encode_of standard server)
    c.in-Some.ensures e (no_colon stored)
    in let none = rw c.in_default-2.is at c.in_ok-stored.ensures
    in none stored s at.0

pub returns-in_default-3 : goal.returns-in_default-3
returns-in_default-3 c = λ stored server s v e.
    let at = cut_is 58 c.args.text.now c.in-Some.front.now c.in-Some.behind.now (encode_of standard stored) (encode_of standard server)
    c.in-Some.ensures e (no_colon stored)
    in let none = rw c.in_default-3.is at c.in_ok-server.ensures
    in none server v at.1
