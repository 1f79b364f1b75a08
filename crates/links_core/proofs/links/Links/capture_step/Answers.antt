use Rattle.std.proofs.Common.{◌∙◌, ◌++◌, ℕ, take, drop, ap, sym, subst}
use Rattle.std.proofs.lemmas.List.{drop-map, take-map}
use Rattle.copyup_core.specs.Holding.{due}
use Rattle.links_core.specs.declared.link.Link.{Link}
use Rattle.links_core.specs.Links.{Linked, links_in, IsLinked}
use Rattle.links_core.proofs.CaptureLemmas.{either, then_ok, is_stepped, due_stepped}
use Rattle.links_core.proofs.links.Links.capture_step.Goals as goal

pub invariant_of-self : goal.invariant_of-self
invariant_of-self c =
    let l = c.self.inside in
    let after = is_stepped c.args.count l.store c.capture_step.new.self (either c.capture_step.result c.capture_step.ensures.rest c.capture_step.ensures.err) c.self.invariant.2 in
    (subst (λ k. IsLinked k l.next l.received.items l.given.items) (sym after.contents) c.self.invariant.0, after.next ∙ c.self.invariant.1, after.own)

pub returns-clause-items : goal.returns-clause-items
returns-clause-items c =
    let count = c.args.count in
    then_ok c.capture_step.result
    (λ h. h ∙ ap (λ k. c.args.out.now.items ++ k) (sym (take-map (λ (p : ℕ × Link). p.1) count (due c.self.inside.store)))
    ∙ ap (λ (k : Linked). c.args.out.now.items ++ take count k.rest) c.self.view_is)
    c.capture_step.ensures.items

pub returns-clause-rest : goal.returns-clause-rest
returns-clause-rest c =
    let count = c.args.count in
    then_ok c.capture_step.result
    (λ h. ap links_in (due_stepped count c.self.inside.store c.capture_step.new.self h) ∙ sym (drop-map (λ (p : ℕ × Link). p.1) count (due c.self.inside.store))
    ∙ ap (λ (k : Linked). drop count k.rest) c.self.view_is)
    c.capture_step.ensures.rest
