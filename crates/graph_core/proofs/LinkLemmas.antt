-- A test of grants, said of the links that stand for them.
use Rattle.std.proofs.Common.{◌≡◌, ◌∙◌, Bool, false, List, map, count_by}
use Rattle.std.specs.List.{AllByRecursion, list_any}
use Rattle.grants_core.specs.declared.grant.Grant.{Grant}
use Rattle.links_core.specs.declared.link.Link.{Link}
use Rattle.links_core.proofs.EndsLemmas.{all_implied}
use Rattle.graph_core.specs.Indices.{Indexed, grant_of, IsWithin}
use Rattle.graph_core.proofs.OverLemmas.{any_over, count_over, any_never, count_never}

module _ (indexed : Indexed) (p : Grant → Bool) (links : List Link) (within : AllByRecursion (IsWithin indexed) links) where
  module _ (q : Link → Bool) (same : (l : Link) → IsWithin indexed l → p (grant_of indexed l) ≡ q l) where
    each : AllByRecursion (λ l. p (grant_of indexed l) ≡ q l) links
    each = all_implied (IsWithin indexed) (λ l. p (grant_of indexed l) ≡ q l) links same within

    pub any_grant : list_any p (map (grant_of indexed) links) ≡ list_any q links
    any_grant = any_over (grant_of indexed) p q links each

    pub count_grants : count_by p (map (grant_of indexed) links) ≡ count_by q links
    count_grants = count_over (grant_of indexed) p q links each

  module _ (never : (l : Link) → IsWithin indexed l → p (grant_of indexed l) ≡ false) where
    pub no_grant : list_any p (map (grant_of indexed) links) ≡ false
    no_grant = any_grant (λ l. false) never ∙ any_never links

    pub none_counted : count_by p (map (grant_of indexed) links) ≡ 0
    none_counted = count_grants (λ l. false) never ∙ count_never links
