use Rattle.std.proofs.Common.{◌≡◌, ◌∙◌, List, IfOk, map, ap, subst}
use Rattle.links_core.specs.declared.standing.Standing.{Standing}
use Rattle.graph_core.specs.Edges.{EdgesState}
use Rattle.graph_core.specs.Indices.{standing_of}
use Rattle.graph_core.proofs.NumberLemmas.{standings_same}
use Rattle.graph_core.proofs.edges.Edges.standings.Goals as goal

pub returns : goal.returns
returns c =
    let e = c.self.inside in
    subst (λ (all : List Standing). IfOk c.standings.result (λ standings. standings.items ≡ all))
    (standings_same e.indices e.links.links ∙ ap (λ (s : EdgesState). map standing_of s.edges) c.self.view_is) c.standings.ensures
