use Rattle.std.proofs.Common.{◌≡◌, map, take}
use Rattle.graph_core.specs.Indices.{grant_of}
use Rattle.graph_core.proofs.linking.grants_of.Given as goal

-- the grants so far are those for which the links so far stand
abbrev pub invariant-loop-link : goal.invariant-loop-link
invariant-loop-link l = record {
  grants : l.grants.items ≡ map (grant_of l.indices) (take l.link-index l.links);
}
