use Rattle.grants_core.proofs.NumberLemmas.{IsNumbered-added}
use Rattle.grants_core.proofs.replay.ReplayAuthority.grant.Goals as goal

pub invariant_of-self-2 : goal.invariant_of-self-2
invariant_of-self-2 c =
    rw c.in_ok-append.ensures.ok (IsNumbered-added c.self.inside.made c.self.inside.in_force.items c.args.at c.args.by c.args.atoms.now c.args.whom.now c.args.option c.self.invariant)
