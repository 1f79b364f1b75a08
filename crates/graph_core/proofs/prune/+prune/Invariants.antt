use Rattle.std.proofs.Common.{◌≡◌, ◌≤◌, Bool, ◌||◌}
use Rattle.links_core.specs.Links.{comes_from, count_at}
use Rattle.links_core.specs.declared.link.Link.{Link}
use Rattle.graph_core.specs.Pruning.{SupportedBut, Falls, AreInOrder}
use Rattle.graph_core.proofs.prune.+prune.Given as goal

abbrev pub decreases-prune : goal.decreases-prune
decreases-prune l = count_at l.atom l.links.now.links

-- so far only the user's links may lack support that did not before
abbrev pub invariant-loop-lost : goal.invariant-loop-lost
invariant-loop-lost l = record {
  in_order : AreInOrder l.links.links;
  next : l.links.next ≡ l.fn.links.next;
  rest : l.links.rest ≡ l.fn.links.rest;
  fewer : count_at l.atom l.links.links ≤ count_at l.atom l.fn.links.links;
  falls : Falls l.owner l.atom l.fn.links.links l.links.links;
  settles : (excused : Link → Bool) → SupportedBut l.owner l.fn.links.links (λ k. excused k || comes_from l.user l.atom k) → SupportedBut l.owner l.links.links (λ k. excused k || comes_from l.user l.atom k);
}

abbrev pub decreases-loop-lost : goal.decreases-loop-lost
decreases-loop-lost l = count_at l.atom l.links.links
