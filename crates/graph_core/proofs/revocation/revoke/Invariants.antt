use Rattle.std.proofs.Common.{◌≡◌, drop}
use Rattle.grants_core.specs.Valid.{valid}
use Rattle.graph_core.specs.Revocation.{grants_of_links, grants_after, AreUpheld}
use Rattle.graph_core.proofs.revocation.revoke.Given as goal

-- what is still to be revoked is of the privileges to come
abbrev pub invariant-loop-atom : goal.invariant-loop-atom
invariant-loop-atom l = record {
  upheld : AreUpheld l.indices l.owners l.links.links;
  valid_is : valid l.owners (grants_after l.loss l.by (drop l.atom-index l.atoms) l.whom (grants_of_links l.indices l.links.links)) ≡ valid l.owners (grants_after l.loss l.by l.atoms l.whom (grants_of_links l.indices l.fn.links.links));
  next : l.links.next ≡ l.fn.links.next;
  rest : l.links.rest ≡ l.fn.links.rest;
}
