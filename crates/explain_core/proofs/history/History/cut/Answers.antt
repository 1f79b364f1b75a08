use Rattle.std.proofs.Common.{◌≡◌, ◌∙◌, true, List, Option, filter, sym, subst}
use Rattle.std.specs.List.{All}
use Rattle.std.proofs.lemmas.Result.{IfOk-weaker}
use Rattle.grants_core.specs.declared.grant.Grant.{Grant}
use Rattle.grants_core.specs.declared.grant.Ownership.{Ownership}
use Rattle.grants_core.specs.History.{owners_after, in_force_after}
use Rattle.explain_core.specs.declared.cut.Cut.{Cut}
use Rattle.explain_core.specs.Cuts.{IsCut}
use Rattle.explain_core.specs.Losses.{is_of_atom, IsLossAlong}
use Rattle.explain_core.proofs.CutLemmas.{of_it, cut_along}
use Rattle.explain_core.proofs.SupportLemmas.{explained}
use Rattle.explain_core.proofs.history.History.cut.Goals as goal

pub cut-requires : goal.cut-requires
cut-requires c =
    let AllOf : List Grant → Type 0 = λ k. All (λ g. is_of_atom c.args.atom.now g ≡ true) k in
    subst AllOf (sym (c.deref.ensures.value ∙ c.in_ok-grants.ensures)) (of_it c.args.atom.now (in_force_after c.args.self.now))

pub returns : goal.returns
returns c =
    let h = explained _ _ c.self.view_is c.self.invariant in
    let now = c.args.self.now in
    let user = c.args.user.now in
    let atom = c.args.atom.now in
    let grants = c.deref.ensures.value ∙ c.in_ok-grants.ensures in
    let why = rw c.in-Holds.is at c.in_ok-chain.ensures in
    let ByOwners : List Ownership → Option Cut → Type 0 = λ k cut. IsLossAlong k c.deref.result.now atom user c.deref-2.result.now cut in
    let OfGrants : List Grant → Option Cut → Type 0 = λ k cut. IsLossAlong (owners_after now) k atom user c.deref-2.result.now cut in
    let Along : List Grant → Option Cut → Type 0 = λ k cut. IsLossAlong (owners_after now) (filter (is_of_atom atom) (in_force_after now)) atom user k cut in
    IfOk-weaker c.cut.result (ByOwners c.self.inside.owners) (λ cut. IsCut now user atom cut)
    (λ cut loss.
    cut_along now user atom c.in-Holds.chain.items why cut
    (subst (λ (k : List Grant). Along k cut) c.deref-2.ensures.value
    (subst (λ (k : List Grant). OfGrants k cut) grants
    (subst (λ (k : List Ownership). ByOwners k cut) h.owners_of loss))))
    c.cut.ensures
