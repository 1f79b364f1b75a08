use Rattle.std.proofs.Common.{◌≡◌, ◌+◌, ◌++◌, map, take, vec_len, vec_capacity}
use Rattle.graph_core.specs.Indices.{grant_of}
use Rattle.graph_core.proofs.linking.put_grants.Given as goal

-- the grants of the links so far are there
abbrev pub invariant-loop-link : goal.invariant-loop-link
invariant-loop-link l = record {
  items : l.out.items ≡ l.fn.out.items ++ map (grant_of l.indices) (take l.link-index l.links);
  len : vec_len l.out ≡ vec_len l.fn.out + l.link-index;
  capacity : vec_capacity l.out ≡ vec_capacity l.fn.out;
}
