use Rattle.std.proofs.Common.{◌∙◌, ap, sym}
use Rattle.grants_core.specs.Content.{gives}
use Rattle.links_core.specs.Links.{goes_to}
use Rattle.graph_core.specs.Indices.{goes_to_place}
use Rattle.graph_core.proofs.LinkLemmas.{any_grant, no_grant}
use Rattle.graph_core.proofs.edges.Edges.any_gives.Goals as goal

pub returns-in-Some : goal.returns-in-Some
returns-in-Some c =
    let e = c.self.inside in
    let place = c.in-Some.place in
    rw (← c.self.view_is) (c.any_to.ensures ∙ sym (any_grant e.indices (gives c.args.user.now c.args.atom.now) e.links.links c.self.invariant.0 (goes_to place.user place.atom)
    (λ l w. c.place.ensures l w ∙ ap (λ o. goes_to_place o l) c.in-Some.is)))

pub returns-in-None : goal.returns-in-None
returns-in-None c =
    let e = c.self.inside in
    rw (← c.self.view_is) (sym (no_grant e.indices (gives c.args.user.now c.args.atom.now) e.links.links c.self.invariant.0
    (λ l w. c.place.ensures l w ∙ ap (λ o. goes_to_place o l) c.in-None.is)))
