use Rattle.std.proofs.Common.{◌≡◌, ◌<◌, true, sym, subst, rules}
use Rattle.std.specs.List.{All}
use Rattle.grants_core.specs.Content.{may_grant}
use Rattle.graph_core.specs.Graph.{GraphState}
use Rattle.graph_core.proofs.SoundLemmas.{IsSound-added}
use Rattle.graph_core.proofs.graph.GraphAuthority.grant.Goals as goal

pub invariant_of-self-2 : goal.invariant_of-self-2
invariant_of-self-2 c =
    let May : GraphState → Type 0 = λ k. All (λ atom. may_grant k.content.owners k.content.in_force c.args.by atom ≡ true) c.args.atoms.now in
    let Later : GraphState → Type 0 = λ k. All (λ g. g.moment.0 < c.args.at.0) k.content.in_force in
    rw (c.note_granted.ensures, c.in_ok-add.ensures.edges) (IsSound-added c.self.inside.owners c.self.inside.edges.edges c.self.inside.edges.next c.args.at c.args.by c.args.atoms.now c.args.whom.now c.args.option c.self.invariant (subst May (sym c.self.view_is) c.requires.may) (subst Later (sym c.self.view_is) c.requires.later))

pub returns-clause-ok : goal.returns-clause-ok
returns-clause-ok c = search rules
