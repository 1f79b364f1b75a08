use Rattle.std.proofs.Common.{◌≡◌, map, take}
use Rattle.std.specs.List.{AllByRecursion}
use Rattle.graph_core.specs.Indices.{grant_of, IsWithin, Extends}
use Rattle.graph_core.proofs.linking.links_of.Given as goal

-- the links so far stand for the grants so far
abbrev pub invariant-loop-grant : goal.invariant-loop-grant
invariant-loop-grant l = record {
  extends : Extends l.fn.indices l.indices;
  within : AllByRecursion (IsWithin l.indices) l.links.items;
  grants : map (grant_of l.indices) l.links.items ≡ take l.grant-index l.grants;
}
