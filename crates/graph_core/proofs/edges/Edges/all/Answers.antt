use Rattle.std.proofs.Common.{◌∙◌, sym, subst, List}
use Rattle.std.specs.List.{AllByRecursion}
use Rattle.links_core.specs.declared.link.Link.{Link}
use Rattle.graph_core.specs.Indices.{IsWithin}
use Rattle.graph_core.proofs.NumberLemmas.{numbered_grants}
use Rattle.graph_core.proofs.edges.Edges.all.Goals as goal

pub grants_of-requires : goal.grants_of-requires
grants_of-requires c =
    subst (λ (k : List Link). AllByRecursion (IsWithin c.self.inside.indices) k) (sym (c.deref.ensures.value ∙ c.in_ok-links.ensures.links)) c.self.invariant.0

pub returns-in_err-links-clause-numbered : goal.returns-in_err-links-clause-numbered
returns-in_err-links-clause-numbered c =
    let e = c.self.inside in
    rw (← c.self.view_is) (numbered_grants e.indices e.links.links e.links.next c.all.ensures.rising c.all.ensures.below)

pub returns-clause-numbered : goal.returns-clause-numbered
returns-clause-numbered c =
    let e = c.self.inside in
    rw (← c.self.view_is) (numbered_grants e.indices e.links.links e.links.next c.all.ensures.rising c.all.ensures.below)
