use Rattle.std.proofs.Common.{sym, subst, refl, List}
use Rattle.grants_core.specs.declared.grant.Grant.{Grant}
use Rattle.graph_core.proofs.NotedLemmas.{AreNoted}
use Rattle.graph_core.proofs.SoundLemmas.{AreNoted-unoptioned, same_content}
use Rattle.graph_core.proofs.graph.GraphAuthority.revoke_option.Goals as goal

pub invariant_of-self : goal.invariant_of-self
invariant_of-self c =
    let Noted : List Grant → Type 0 = λ k. AreNoted c.self.inside.owners k in
    record {
      in_order = c.revoke.ensures.in_order;
      supported = c.revoke.ensures.supported;
      noted = subst Noted (sym c.revoke.ensures.valid) (AreNoted-unoptioned c.self.inside.owners c.self.inside.edges.edges c.args.by c.args.atoms.now c.args.whom.now c.self.invariant.noted);
    }

pub returns-clause-content : goal.returns-clause-content
returns-clause-content c = rw (← c.self.view_is) (same_content _ _ _ _ _ _ refl c.revoke.ensures.valid c.revoke.ensures.next)
