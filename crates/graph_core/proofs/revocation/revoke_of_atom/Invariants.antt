use Rattle.std.proofs.Common.{◌≡◌, ◌∷◌, [], drop}
use Rattle.grants_core.specs.Valid.{valid}
use Rattle.graph_core.specs.Revocation.{grants_of_links, grants_after, AreUpheld}
use Rattle.graph_core.proofs.revocation.revoke_of_atom.Given as goal

-- what is still to be revoked leads to the users to come
abbrev pub invariant-loop-user : goal.invariant-loop-user
invariant-loop-user l = record {
  upheld : AreUpheld l.indices l.owners l.links.links;
  valid_is : valid l.owners (grants_after l.loss l.fn.by (l.atom ∷ []) (drop l.user-index l.whom) (grants_of_links l.indices l.links.links)) ≡ valid l.owners (grants_after l.loss l.fn.by (l.atom ∷ []) l.whom (grants_of_links l.indices l.fn.links.links));
  next : l.links.next ≡ l.fn.links.next;
  rest : l.links.rest ≡ l.fn.links.rest;
}
