use Rattle.std.proofs.Common.{rules, sym, ap, ◌∙◌}
use Rattle.std.specs.Option.{option_copied}
use Rattle.login_core.specs.Users.{verifier_of}
use Rattle.login_core.specs.Login.{Beginning}
use Rattle.login_core.proofs.Answered.{answered}
use Rattle.login_core.proofs.beginning.Beginning.answer.Goals as goal

pub returns : goal.returns
returns c =
    let found = ap (λ (b : Beginning). verifier_of c.args.users.now b.user) (sym c.self.view_is) ∙ (sym c.find.ensures ∙ ap option_copied c.in-Some.is) in
    answered (λ v. v.items) c.args.users.now c.args.self.now c.args.message.now c.in-Some.kept.now c.signed-2.result found c.signed-2.ensures

pub returns-in_default : goal.returns-in_default
returns-in_default c = search rules
