use Rattle.std.proofs.Common.{◌≡◌, map, drop}
use Rattle.links_core.specs.Links.{Rises, is_listed_by, link_off, links_in, numbered_as}
use Rattle.links_core.proofs.options.take_options.Given as goal

-- what is still to be taken is at the ends to come
abbrev pub invariant-loop-end : goal.invariant-loop-end
invariant-loop-end l = record {
  own : l.store.contents ≡ numbered_as (links_in l.store.contents);
  rising : Rises (links_in l.store.contents);
  links : map (link_off (is_listed_by l.by (drop l.end-index l.ends))) (links_in l.store.contents) ≡ map (link_off (is_listed_by l.by l.ends)) (links_in l.fn.store.contents);
  next : l.store.next ≡ l.fn.store.next;
  rest : l.store.rest ≡ l.fn.store.rest;
}
