use Rattle.std.proofs.Common.{◌≡◌, ◌∙◌, List, Option, ℕ, sym, ap, subst}
use Rattle.links_core.specs.declared.link.Link.{Link}
use Rattle.graph_core.specs.Pruning.{is_of_another, is_between, Falls}
use Rattle.graph_core.specs.Revocation.{links_after}
use Rattle.graph_core.proofs.LossLemmas.{AreInOrder-after, SupportedBut-after, between_none-after}
use Rattle.graph_core.proofs.revocation.revoke_between.Goals as goal

pub prune-requires : goal.prune-requires
prune-requires c = rw c.take_between.ensures.links (AreInOrder-after c.args.loss _ c.args.links.now.links c.requires.in_order)

pub returns-in-Some-clause-supported : goal.returns-in-Some-clause-supported
returns-in-Some-clause-supported c =
    c.prune.ensures.settles (is_of_another c.args.atom)
    (rw c.take_between.ensures.links (SupportedBut-after c.args.loss c.args.owner c.args.by c.in-Some.user c.args.atom c.args.links.now.links c.requires.supported))

pub returns-in_default-clause-falls : goal.returns-in_default-clause-falls
returns-in_default-clause-falls c =
    let links = c.args.links.now.links in
    let same : links_after c.args.loss (is_between c.args.by c.args.user c.args.atom) links ≡ links =
    ap (λ (u : Option ℕ). links_after c.args.loss (is_between c.args.by u c.args.atom) links) c.in_default.is ∙ between_none-after c.args.loss c.args.by c.args.atom links in
    let Fall : List Link → Type 0 = λ k. Falls c.args.owner c.args.atom k links in
    subst Fall (sym same) Falls.none
