use Rattle.std.proofs.Common.{◌≡◌, not, length, filter, Some}
use Rattle.graph_core.specs.Pruning.{is_between}
use Rattle.graph_core.proofs.revocation.remove_between.Given as goal

-- so far only named links were taken out
abbrev pub invariant-loop-link : goal.invariant-loop-link
invariant-loop-link l = record {
  links : filter (λ k. not (is_between l.by (Some l.user) l.atom k)) l.links.links ≡ filter (λ k. not (is_between l.by (Some l.user) l.atom k)) l.fn.links.links;
  next : l.links.next ≡ l.fn.links.next;
  rest : l.links.rest ≡ l.fn.links.rest;
}

abbrev pub decreases-loop-link : goal.decreases-loop-link
decreases-loop-link l = length l.links.links
