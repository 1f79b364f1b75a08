use Rattle.std.proofs.Common.{◌≡◌, ◌++◌, ◌∷◌, [], None, refl, sym, ap, subst, ◌∙◌}
use Rattle.base_core.specs.Words.{same_name}
use Rattle.base_core.specs.declared.name.Name.{Name}
use Rattle.indexmap.proofs.CallerLemmas.{insert_entry-new}
use Rattle.login_core.specs.declared.verifier.Verifier.{Verifier}
use Rattle.login_core.specs.Users.{Users, verifier_of}
use Rattle.login_core.proofs.Adding.{there, not-there}
use Rattle.login_core.proofs.users.Users.enter.Goals as goal

pub returns-then-is_some-clause-err : goal.returns-then-is_some-clause-err
returns-then-is_some-clause-err c =
    let twice = there c.find.result (verifier_of c.args.self.now c.args.user.0) c.find.ensures (sym c.is_some.ensures ∙ c.if-is_some.true) in
    rw c.wrong.ensures (λ line says. (refl, (c.args.user, says, twice)))

pub returns-in-Ok-clause-ok : goal.returns-in-Ok-clause-ok
returns-in-Ok-clause-ok c =
    let user : Name × Verifier = c.args.user in
    let none = not-there c.find.result (verifier_of c.args.self.now c.args.user.0) c.find.ensures (sym c.is_some.ensures ∙ c.if-is_some.false) in
    let absent = subst (λ (us : Users). verifier_of us c.args.user.0 ≡ None) (sym c.self.view_is) none in
    (none, c.in-Ok.ensures.entries ∙ (insert_entry-new same_name c.self.inside.verifiers c.args.user.0 c.args.user.1 absent ∙ ap (λ (us : Users). us ++ user ∷ []) c.self.view_is))
