use Rattle.std.proofs.Common.{◌≡◌, ℕ, ◌∙◌, ◌&&◌, ◌==◌, List, Option, map, ap, sym}
use Rattle.std.specs.List.{find}
use Rattle.links_core.specs.declared.link.Link.{Link}
use Rattle.links_core.specs.declared.end.End.{End}
use Rattle.links_core.specs.Links.{ends_at, grantee_of, links_in, passes_at, goes_to, IsLinked}
use Rattle.links_core.proofs.LookUpLemmas.{own_values-kept, find_listed, find_same, goes_to_is, found_at, number_of}
use Rattle.std.specs.Option.{option_copied}
use Rattle.links_core.specs.Ends.{EndsState, at_user}
use Rattle.links_core.specs.Listed.{ends_listed}
use Rattle.links_core.proofs.links.Links.first_optioned_between.Goals as goal

-- the link for which the end that was answered stands
first_is : (contents : List (ℕ × Link)) (next : ℕ) (received given : List EndsState) (by user : ℕ) (atom : ℕ) (ends : List End) (first : Option End) → IsLinked contents next received given → ends ≡ at_user user (ends_listed received atom) → first ≡ find (λ e. passes_at (λ g. g.option && (g.grantor == by)) contents e.number) ends → found_at contents (number_of first) ≡ find (λ g. (g.option && (g.grantor == by)) && goes_to user atom g) (links_in contents)
first_is contents next received given by user atom ends first kept is answered =
    let same = ap (λ (k : List End). map (λ e. e.number) k) is ∙ kept.received_at.at atom user in
    ap (λ o. found_at contents (number_of o)) answered
    ∙ find_listed (λ g. g.option && (g.grantor == by)) (ends_at grantee_of atom user) contents (links_in contents) ends (own_values-kept contents next received given kept) same
    ∙ find_same _ (λ g. (g.option && (g.grantor == by)) && goes_to user atom g) (links_in contents) (λ g. ap (λ b. (g.option && (g.grantor == by)) && b) (goes_to_is user atom g))

pub returns-in-Some : goal.returns-in-Some
returns-in-Some c =
    let contents = c.self.inside.store.contents in
    rw (← c.self.view_is) (c.copied.ensures ∙ c.get.ensures ∙ sym (ap (λ o. found_at contents (number_of (option_copied o))) c.in-Some.is)
    ∙ first_is contents c.self.inside.next c.self.inside.received.items c.self.inside.given.items c.args.by c.args.user c.args.atom c.ends_at-ends.result.now (option_copied c.first_optioned_by.result) c.self.invariant.0 c.ends_at-ends.ensures c.first_optioned_by.ensures)

pub returns-in-None : goal.returns-in-None
returns-in-None c =
    let contents = c.self.inside.store.contents in
    rw (← c.self.view_is) (sym (ap (λ o. found_at contents (number_of (option_copied o))) c.in-None.is)
    ∙ first_is contents c.self.inside.next c.self.inside.received.items c.self.inside.given.items c.args.by c.args.user c.args.atom c.ends_at-ends.result.now (option_copied c.first_optioned_by.result) c.self.invariant.0 c.ends_at-ends.ensures c.first_optioned_by.ensures)
