use Rattle.std.proofs.Common.{◌∙◌, ◌&&◌, ap, sym}
use Rattle.std.specs.List.{list_any}
use Rattle.base_core.specs.Users.{same_user}
use Rattle.explain_core.proofs.ListedLemmas.{names-one}
use Rattle.explain_core.proofs.cut.is_named.Goals as goal

pub returns-then-not-is_by : goal.returns-then-not-is_by
returns-then-not-is_by c =
    let g = c.args.grant.now in
    let whom = c.args.whom.now.listed.items in
    sym (names-one c.args.by.now c.args.atom.now whom g ∙ ap (λ b. b && list_any (λ u. same_user u g.grantee) whom) (sym c.is_by.ensures ∙ c.if-not-is_by.true))

pub returns : goal.returns
returns c =
    let g = c.args.grant.now in
    let whom = c.args.whom.now.listed.items in
    c.has.ensures
    ∙ sym (names-one c.args.by.now c.args.atom.now whom g ∙ ap (λ b. b && list_any (λ u. same_user u g.grantee) whom) (sym c.is_by.ensures ∙ c.if-not-is_by.false))
