use Rattle.std.proofs.Common.{◌||◌, ◌∙◌, ap, sym, take}
use Rattle.std.specs.List.{list_any}
use Rattle.std.proofs.lemmas.List.{take_all}
use Rattle.base_core.specs.Users.{same_user}
use Rattle.explain_core.proofs.ListedLemmas.{any-more, with-any}
use Rattle.explain_core.proofs.users.users_of.Goals as goal

pub loop-user-preserved : goal.loop-user-preserved
loop-user-preserved c =
    let users = c.args.users.now in
    let i = c.loop-user.user-index in
    let u = c.user-item.result in
    record {
      seen = c.in-Ok.ensures.seen;
      same = λ x.
          ap (list_any (λ v. same_user v x)) c.in-Ok.ensures.listed ∙ with-any c.loop-user.made.listed.items u x
          ∙ ap (λ b. b || same_user u x) (c.loop-user.invariant.same x)
          ∙ ap (λ k. list_any (λ v. same_user v x) (take i users) || same_user k x) c.user-item.is
          ∙ sym (any-more users i u x c.loop-user-test.true);
    }

pub returns-clause-same : goal.returns-clause-same
returns-clause-same c = λ x.
    c.loop-user.invariant.same x ∙ ap (list_any (λ v. same_user v x)) (take_all c.loop-user.user-index c.args.users.now c.loop-user-test.false)
