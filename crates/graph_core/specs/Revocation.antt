-- What a revocation keeps of the edges.
use Rattle.std.specs.Prelude.{◌≡◌, Bool, true, not, List, map, filter}
use Rattle.std.specs.List.{AllByRecursion}
use Rattle.base_core.specs.declared.name.User.{User}
use Rattle.base_core.specs.declared.privilege.Atom.{Atom}
use Rattle.links_core.specs.declared.link.Link.{Link}
use Rattle.links_core.specs.Links.{link_off}
use Rattle.grants_core.specs.declared.grant.Grant.{Grant}
use Rattle.grants_core.specs.declared.grant.Ownership.{Ownership}
use Rattle.grants_core.specs.Content.{without, options_off}
use Rattle.grants_core.specs.Owners.{was_granted}
use Rattle.grants_core.specs.Valid.{IsInOrder, AreSupported}
use Rattle.graph_core.specs.Indices.{Indexed, grant_of, IsWithin}
use Rattle.graph_core.specs.declared.revocation.Loss.{Loss}
use Rattle.graph_core.specs.declared.revocation.Loss.TheVariants as losses

-- the grants for which links stand
abbrev pub grants_of_links : Indexed → List Link → List Grant
grants_of_links indexed links = map (grant_of indexed) links

-- what is left of links as those that are named go, or lose their option
abbrev pub links_after : Loss → (Link → Bool) → List Link → List Link
links_after losses.Grant named links = filter (λ l. not (named l)) links
links_after losses.Option named links = map (link_off named) links

-- what is left of grants as those by the one user of these privileges to these users go, or lose
-- their option
abbrev pub grants_after : Loss → User → List Atom → List User → List Grant → List Grant
grants_after losses.Grant by atoms whom grants = without by atoms whom grants
grants_after losses.Option by atoms whom grants = options_off by atoms whom grants

-- links between indices that are in use, in order of time, each with support
pub record AreUpheld (indexed : Indexed) (owners : List Ownership) (links : List Link) : Type 0 where
  pub within : AllByRecursion (IsWithin indexed) links
  pub in_order : IsInOrder (grants_of_links indexed links)
  pub supported : let grants = grants_of_links indexed links in AreSupported owners grants grants

-- Griffiths and Wade 1976: edges in order of time, each with support among them of an earlier
-- moment, or made by the owner; and each of a table that is noted
pub record IsSound (owners : List Ownership) (edges : List Grant) : Type 0 where
  pub in_order : IsInOrder edges
  pub supported : AreSupported owners edges edges
  pub noted : AllByRecursion (λ g. was_granted owners g.atom.table ≡ true) edges
