use Rattle.std.proofs.Common.{◌≡◌, ◌∙◌, ◌+◌, ◌∷◌, [], List, map, drop, get_or, ap, sym, subst}
use Rattle.std.proofs.lemmas.List.{drop_more, drop_all}
use Rattle.links_core.specs.declared.link.Link.{Link}
use Rattle.links_core.specs.declared.end.End.{End}
use Rattle.links_core.specs.Links.{Rises, is_listed_by, link_off, links_in, numbered_as}
use Rattle.links_core.proofs.LinksLemmas.{links_in-numbered_as}
use Rattle.links_core.proofs.ChangeLemmas.{off_first, off_nothing, rises_off}
use Rattle.links_core.proofs.options.take_options.Goals as goal

pub loop-end-preserved : goal.loop-end-preserved
loop-end-preserved c =
    let by = c.args.by in
    let e : End = get_or c.args.ends.now c.loop-end.end-index (record { user = 0; number = 0 }) in
    let rest = drop (c.loop-end.end-index + 1) c.args.ends.now in
    let was : List Link = links_in c.loop-end.store.contents in
    let now : List Link = map (link_off (is_listed_by by (e ∷ []))) was in
    let here : drop c.loop-end.end-index c.args.ends.now ≡ e ∷ rest =
    drop_more c.args.ends.now c.loop-end.end-index (record { user = 0; number = 0 }) c.loop-end-test.true in
    let is : links_in c.take_option.new.store.contents ≡ now = ap links_in c.take_option.ensures.contents ∙ links_in-numbered_as now in
    record {
      own = c.take_option.ensures.contents ∙ ap numbered_as (sym is);
      rising = subst (λ k. Rises k) (sym is) (rises_off (is_listed_by by (e ∷ [])) was c.loop-end.invariant.rising);
      links = ap (map (link_off (is_listed_by by rest))) is ∙ off_first by e rest was ∙ ap (λ k. map (link_off (is_listed_by by k)) was) (sym here) ∙ c.loop-end.invariant.links;
      next = c.take_option.ensures.next ∙ c.loop-end.invariant.next;
      rest = c.take_option.ensures.rest ∙ c.loop-end.invariant.rest;
    }

pub returns-clause-contents : goal.returns-clause-contents
returns-clause-contents c =
    let by = c.args.by in
    let left : List Link = links_in c.loop-end.store.contents in
    let none : drop c.loop-end.end-index c.args.ends.now ≡ [] = drop_all c.loop-end.end-index c.args.ends.now c.loop-end-test.false in
    c.loop-end.invariant.own
    ∙ ap numbered_as (sym (off_nothing by left) ∙ ap (λ k. map (link_off (is_listed_by by k)) left) (sym none) ∙ c.loop-end.invariant.links)
