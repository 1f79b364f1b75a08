use Rattle.std.proofs.Common.{◌≡◌, Some, refl, ap, ◌∙◌}
use Rattle.base_core.specs.Words.{name_of}
use Rattle.login_core.specs.Users.{kept_text}
use Rattle.login_core.proofs.Naming.{free-name}
use Rattle.login_core.proofs.Spelling.{cut_is}
use Rattle.login_core.proofs.users.user_of.Goals as goal

pub returns-in_default : goal.returns-in_default
returns-in_default c = λ user says.
    let v = user.1 in
    let none = rw c.in_default.is at c.in_ok-name.ensures in
    none says.word v.salt.items v.iterations v.stored_key v.server_key (free-name 58 says.word user.0 refl says.named) v.salted v.iterated.0 v.iterated.1 v.stored v.served says.said

pub returns-in_default-read : goal.returns-in_default-read
returns-in_default-read c = λ user says.
    let some = rw c.in-Some.is at c.in_ok-name.ensures in
    let u = c.in-Some.field-0 in
    let same = cut_is 58 c.args.line.now u.name.now (kept_text u.verifier) says.word (kept_text user.1) (record { said = some.0; free = some.1 }) says.said (free-name 58 says.word user.0 refl says.named) in
    let named : name_of u.name.now ≡ Some user.0 = ap name_of same.0 ∙ says.named in
    c.in_default-read.not-Some user.0 (c.read.ensures ∙ named)
