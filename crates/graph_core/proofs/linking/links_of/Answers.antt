use Rattle.std.proofs.Common.{◌∙◌, ◌++◌, ◌∷◌, [], List, map, take, ap, sym, subst}
use Rattle.std.specs.List.{AllByRecursion}
use Rattle.std.proofs.lemmas.List.{map-append, take_more, take_all}
use Rattle.links_core.specs.declared.link.Link.{Link}
use Rattle.links_core.proofs.EndsLemmas.{all_join}
use Rattle.graph_core.specs.Indices.{grant_of, IsWithin}
use Rattle.graph_core.proofs.ExtendLemmas.{extends_same, extends_then, grants_kept, all_within_kept}
use Rattle.graph_core.proofs.linking.links_of.Goals as goal

pub loop-grant-init : goal.loop-grant-init
loop-grant-init c = record {
  extends = extends_same c.args.indices.now;
  within = subst (λ (k : List Link). AllByRecursion (IsWithin c.args.indices.now) k) (sym c.in_ok-links.ensures.items) tt;
  grants = ap (map (grant_of c.args.indices.now)) c.in_ok-links.ensures.items;
}

pub loop-grant-preserved : goal.loop-grant-preserved
loop-grant-preserved c =
    let old = c.loop-grant.indices in
    let new = c.add.new.self in
    let inv = c.loop-grant.invariant in
    let so_far = c.loop-grant.links.items in
    let link = c.in_ok-add.field-0 in
    let pushed = c.in_ok-push.ensures.items in
    record {
      extends = extends_then c.args.indices.now old new inv.extends c.add.ensures.extends;
      within = subst (λ (k : List Link). AllByRecursion (IsWithin new) k) (sym pushed) (all_join (IsWithin new) so_far (link ∷ []) (all_within_kept old new so_far c.add.ensures.extends inv.within) (c.in_ok-add.ensures.within, tt));
      grants = ap (map (grant_of new)) pushed ∙ map-append (grant_of new) so_far (link ∷ [])
          ∙ ap (λ k. k ++ grant_of new link ∷ []) (grants_kept old new so_far c.add.ensures.extends inv.within ∙ inv.grants)
          ∙ ap (λ g. take c.loop-grant.grant-index c.args.grants.now ++ g ∷ []) (c.in_ok-add.ensures.grant ∙ c.grant-item.is)
          ∙ sym (take_more c.args.grants.now c.loop-grant.grant-index c.grant-item.result c.loop-grant-test.true);
    }

pub returns-clause-grants : goal.returns-clause-grants
returns-clause-grants c = c.loop-grant.invariant.grants ∙ take_all c.loop-grant.grant-index c.args.grants.now c.loop-grant-test.false

pub returns-in_err-links-clause-extends : goal.returns-in_err-links-clause-extends
returns-in_err-links-clause-extends c = extends_same c.args.indices.now
