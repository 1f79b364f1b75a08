use Rattle.std.proofs.Common.{◌∙◌, ◌++◌, ◌∷◌, [], List, map, ap, sym, append_assoc}
use Rattle.links_core.specs.declared.standing.Standing.{Standing}
use Rattle.links_core.specs.Links.{links_in, standing_of_link}
use Rattle.links_core.proofs.walk.standings_of.Goals as goal

pub loop-link-preserved : goal.loop-link-preserved
loop-link-preserved c =
    let later : List Standing = map standing_of_link (links_in c.next.new.self) in
    ap (λ k. k ++ later) c.in_ok-push.ensures.items ∙ append_assoc c.loop-link.standings.items (standing_of_link c.in-Some.link.now ∷ []) later
    ∙ ap (λ k. c.loop-link.standings.items ++ map standing_of_link (links_in k)) (sym c.in-Some.ensures.steps) ∙ c.loop-link.invariant
