use Rattle.std.proofs.Common.{◌∙◌, ◌==◌, ap, sym}
use Rattle.base_core.specs.Privileges.{same_atom}
use Rattle.graph_core.specs.Indices.{is_index}
use Rattle.graph_core.proofs.LinkLemmas.{count_grants, none_counted}
use Rattle.graph_core.proofs.edges.Edges.count.Goals as goal

pub returns-in-Some : goal.returns-in-Some
returns-in-Some c =
    let e = c.self.inside in
    let a = c.in-Some.atom in
    rw (← c.self.view_is) (c.count.ensures ∙ sym (count_grants e.indices (λ g. same_atom g.atom c.args.atom.now) e.links.links c.self.invariant.0 (λ l. l.atom == a)
    (λ l w. c.atom.ensures l.atom w.atom ∙ ap (λ o. is_index o l.atom) c.in-Some.is)))

pub returns-in-None : goal.returns-in-None
returns-in-None c =
    let e = c.self.inside in
    rw (← c.self.view_is) (sym (none_counted e.indices (λ g. same_atom g.atom c.args.atom.now) e.links.links c.self.invariant.0
    (λ l w. c.atom.ensures l.atom w.atom ∙ ap (λ o. is_index o l.atom) c.in-None.is)))
