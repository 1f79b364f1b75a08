use Rattle.std.proofs.Common.{◌∙◌, ◌&&◌, ◌==◌, ap, sym}
use Rattle.std.specs.Option.{is_some}
use Rattle.base_core.specs.Users.{same_user}
use Rattle.grants_core.specs.Content.{gives}
use Rattle.links_core.specs.Links.{goes_to}
use Rattle.graph_core.specs.Indices.{grant_of, is_index, goes_to_place}
use Rattle.graph_core.proofs.LinkLemmas.{any_grant, no_grant}
use Rattle.graph_core.proofs.PlaceLemmas.{and_false, both}
use Rattle.graph_core.proofs.PruningLemmas.{is_some-find}
use Rattle.graph_core.proofs.edges.Edges.any_optioned_between.Goals as goal

pub returns-in_default : goal.returns-in_default
returns-in_default c =
    let e = c.self.inside in
    rw (← c.self.view_is) (sym (no_grant e.indices (λ g. (g.option && same_user g.grantor c.args.by.now) && gives c.args.user.now c.args.atom.now g) e.links.links c.self.invariant.0
    (λ l w. ap (λ b. (l.option && b) && gives c.args.user.now c.args.atom.now (grant_of e.indices l)) (c.user.ensures.index l.grantor w.grantor ∙ ap (λ o. is_index o l.grantor) c.in_default.is) ∙ ap (λ b. b && gives c.args.user.now c.args.atom.now (grant_of e.indices l)) (and_false l.option))))

pub returns-in-None : goal.returns-in-None
returns-in-None c =
    let e = c.self.inside in
    rw (← c.self.view_is) (sym (no_grant e.indices (λ g. (g.option && same_user g.grantor c.args.by.now) && gives c.args.user.now c.args.atom.now g) e.links.links c.self.invariant.0
    (λ l w. ap (λ b. (l.option && same_user (grant_of e.indices l).grantor c.args.by.now) && b) (c.place.ensures l w ∙ ap (λ o. goes_to_place o l) c.in-None.is) ∙ and_false _)))

pub returns-in-Some-place : goal.returns-in-Some-place
returns-in-Some-place c =
    let e = c.self.inside in
    let by = c.in-Some.by in
    let place = c.in-Some-place.place in
    rw (← c.self.view_is) (c.is_some.ensures ∙ ap is_some c.first_optioned_between.ensures ∙ is_some-find (λ l. (l.option && (l.grantor == by)) && goes_to place.user place.atom l) e.links.links
    ∙ sym (any_grant e.indices (λ g. (g.option && same_user g.grantor c.args.by.now) && gives c.args.user.now c.args.atom.now g) e.links.links c.self.invariant.0 (λ l. (l.option && (l.grantor == by)) && goes_to place.user place.atom l)
    (λ l w. both _ _ _ _ (ap (λ b. l.option && b) (c.user.ensures.index l.grantor w.grantor ∙ ap (λ o. is_index o l.grantor) c.in-Some.is)) (c.place.ensures l w ∙ ap (λ o. goes_to_place o l) c.in-Some-place.is))))
