use Rattle.std.proofs.Common.{◌∙◌, ℕ, ◌&&◌, ◌==◌, [], List, Option, map, ap, sym}
use Rattle.std.specs.Option.{unwrap_or}
use Rattle.links_core.specs.declared.link.Link.{Link}
use Rattle.links_core.specs.declared.end.End.{End}
use Rattle.links_core.specs.Links.{Linked, links_in, link_off, goes_to, numbered_as}
use Rattle.links_core.proofs.ChangeLemmas.{AreOff, options_off_is}
use Rattle.links_core.proofs.links.Links.take_options.Goals as goal

are_off : (c : goal.After-take_options) → AreOff c.self.inside.store.contents c.take_options.new.store.contents c.self.inside.next c.self.inside.received.items c.self.inside.given.items (λ l. (l.grantor == c.args.by) && goes_to c.args.user c.args.atom l)
are_off c =
    options_off_is c.self.inside.store.contents c.take_options.new.store.contents c.self.inside.next c.self.inside.received.items c.self.inside.given.items
    c.args.by c.args.user c.args.atom c.ends_at-ends.result.now c.self.invariant.0
    (ap (λ (k : List End). map (λ e. e.number) k) c.ends_at-ends.ensures ∙ c.self.invariant.0.received_at.at c.args.atom c.args.user)
    c.take_options.ensures.contents

pub invariant_of-self : goal.invariant_of-self
invariant_of-self c =
    let due_same = ap (λ (o : Option (List (ℕ × Link))). unwrap_or o []) c.take_options.ensures.rest in
    ((are_off c).kept, c.take_options.ensures.next ∙ c.self.invariant.1, due_same ∙ c.self.invariant.2 ∙ ap (λ k. numbered_as (links_in k)) (sym due_same))

pub returns-clause-links : goal.returns-clause-links
returns-clause-links c =
    (are_off c).links ∙ ap (λ (k : Linked). map (link_off (λ l. (l.grantor == c.args.by) && goes_to c.args.user c.args.atom l)) k.links) c.self.view_is
