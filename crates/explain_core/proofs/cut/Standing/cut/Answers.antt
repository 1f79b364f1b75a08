use Rattle.std.proofs.Common.{◌≡◌, ◌<◌, ◌+◌, ◌-◌, ◌∙◌, arith, ℕ, length, take, drop, ap, sym, subst}
use Rattle.std.specs.List.{All}
use Rattle.base_core.specs.declared.name.User.{User}
use Rattle.grants_core.specs.declared.grant.Grant.{Grant}
use Rattle.explain_core.specs.Losses.{IsLoss, AreNeeded, HoldsAgainst}
use Rattle.explain_core.proofs.ListLemmas.{split-here}
use Rattle.explain_core.proofs.cut.Standing.cut.Goals as goal

pub returns-in-Some : goal.returns-in-Some
returns-in-Some c =
    let o = c.args.self.now.owners.now in
    let grants = c.args.self.now.grants.now in
    let atom = c.args.self.now.atom.now in
    let chain = c.args.chain.now in
    let at : ℕ = c.loop-at.at - 1 in
    let g : Grant = c.index-chain-at.result in
    let cut = c.in-Some.cut in
    let found = rw c.in-Some.is at c.in_ok-cut.ensures in
    let within : at < length chain = omega (arith, c.loop-at-test.true, c.loop-at.invariant.within) in
    let next : c.loop-at.at ≡ at + 1 = omega (arith, c.loop-at-test.true) in
    let Loss : User → Type 0 = λ by. IsLoss o grants atom c.args.user.now by cut.whom.items in
    let Needed : User → Type 0 = λ by. AreNeeded o grants atom c.args.user.now by cut.whom.items in
    let Held : ℕ → Type 0 = λ n. All (λ h. HoldsAgainst o grants atom c.args.user.now h.grantor) (drop n chain) in
    (subst Loss (sym found.0) found.1, subst Needed (sym found.0) found.2, take at chain, g, drop (at + 1) chain, split-here chain at g within c.index-chain-at.is, found.0 ∙ ap (λ (h : Grant). h.grantor) (sym c.index-chain-at.is), subst Held next c.loop-at.invariant.held)
