use Rattle.std.proofs.Common.{not, rules}
use Rattle.grants_core.specs.Content.{names}
use Rattle.grants_core.proofs.NumberLemmas.{IsNumbered-filter, IsNumbered-valid}
use Rattle.grants_core.proofs.replay.ReplayAuthority.revoke.Goals as goal

pub invariant_of-self : goal.invariant_of-self
invariant_of-self c =
    rw (c.keep_valid.ensures, c.remove_named.ensures) (IsNumbered-valid c.self.inside.made c.self.inside.owners _ (IsNumbered-filter c.self.inside.made (λ g. not (names c.args.by c.args.atoms.now c.args.whom.now g)) c.self.inside.in_force.items c.self.invariant))

pub returns : goal.returns
returns c = search rules
