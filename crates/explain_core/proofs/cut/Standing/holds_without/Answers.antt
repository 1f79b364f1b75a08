use Rattle.std.proofs.Common.{◌≡◌, Bool, List, ◌∷◌, [], ◌∙◌, ap}
use Rattle.std.specs.List.{list_any}
use Rattle.std.proofs.lemmas.Result.{IfOk-weaker}
use Rattle.base_core.specs.declared.name.User.{User}
use Rattle.grants_core.specs.Content.{gives}
use Rattle.grants_core.specs.Valid.{valid}
use Rattle.explain_core.specs.Losses.{holds_without}
use Rattle.explain_core.proofs.ListedLemmas.{without-same}
use Rattle.explain_core.proofs.cut.Standing.holds_without.Goals as goal

pub returns : goal.returns
returns c =
    let standing = c.args.self.now in
    let atom = standing.atom.now in
    let grants = standing.grants.now in
    let owners = standing.owners.now in
    let user = c.args.user.now in
    let by = c.args.by.now in
    let listed = c.in_ok-whom.whom.listed.items in
    let Tells : List User → Bool → Type 0 = λ whom holds. holds ≡ holds_without owners grants atom user by whom in
    IfOk-weaker c.holds_without_these-holds.result (Tells listed) (Tells c.args.whom.now)
    (λ holds is.
    is ∙ ap (λ left. list_any (gives user atom) (valid owners left)) (without-same by (atom ∷ []) listed c.args.whom.now grants c.in_ok-whom.ensures.same))
    c.holds_without_these-holds.ensures
