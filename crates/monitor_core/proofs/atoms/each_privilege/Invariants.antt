use Rattle.std.proofs.Common.{◌≡◌, drop}
use Rattle.monitor_core.specs.Verdict.{each}
use Rattle.monitor_core.specs.Atoms.{atoms_of_one}
use Rattle.monitor_core.proofs.atoms.each_privilege.Given as goal

-- all before passed: what is found of the rest is what is found of all
abbrev pub invariant-loop-privilege : goal.invariant-loop-privilege
invariant-loop-privilege g l =
    each (drop l.privilege-index l.privileges) (λ p. each (atoms_of_one l.table l.columns p) (g.C.AtomCheck.check_of l.check))
    ≡ each l.privileges (λ p. each (atoms_of_one l.table l.columns p) (g.C.AtomCheck.check_of l.check))
