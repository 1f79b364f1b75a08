use Rattle.std.proofs.Common.{rules, ◌∙◌, List, ap, sym}
use Rattle.base_core.specs.declared.name.User.{User}
use Rattle.explain_core.specs.Losses.{holds_without}
use Rattle.explain_core.proofs.FewerLemmas.{holds-against}
use Rattle.explain_core.proofs.LossLemmas.{unowned-holds}
use Rattle.explain_core.proofs.cut.Standing.cut_by.Goals as goal

pub returns-then-branch : goal.returns-then-branch
returns-then-branch c =
    let o = c.args.self.now.owners.now in
    let grants = c.args.self.now.grants.now in
    let atom = c.args.self.now.atom.now in
    let Holds = λ (k : List User). holds_without o grants atom c.args.user.now c.args.by.now k in
    let holds = ap Holds (sym c.deref.ensures.value) ∙ sym c.in_ok-holds_without.ensures ∙ c.if-branch.true in (
      unowned-holds o grants atom c.args.user.now c.args.by.now c.in_ok-whom.whom.items c.requires c.in_ok-whom.ensures.all holds,
      holds-against o grants atom c.args.user.now c.args.by.now c.in_ok-whom.whom.items c.in_ok-whom.ensures.all holds,
    )

pub returns : goal.returns
returns c = search rules
