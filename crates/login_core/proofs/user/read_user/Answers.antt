use Rattle.login_core.specs.Verifiers.{verifier_text}
use Rattle.login_core.proofs.Spelling.{cut_is}
use Rattle.login_core.proofs.user.read_user.Goals as goal

pub returns-in_default-2 : goal.returns-in_default-2
returns-in_default-2 c = λ name salt iterations stored server free b some small s v e.
    let at = cut_is 58 c.args.line.now c.in-Some.name.now c.in-Some.behind.now name (verifier_text salt iterations stored server)
    c.in-Some.ensures e free
    in let none = rw c.in_default-2.is at c.in_ok-verifier.ensures
    in none salt iterations stored server b some small s v at.1
