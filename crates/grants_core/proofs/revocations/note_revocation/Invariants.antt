use Rattle.std.proofs.Common.{◌≡◌, cond, take}
use Rattle.grants_core.specs.declared.grant.Grant.{Grant}
use Rattle.grants_core.specs.Content.{names}
use Rattle.grants_core.specs.Log.{noted_revocation}
use Rattle.grants_core.proofs.revocations.note_revocation.Given as goal

-- what is noted of the privileges so far
abbrev pub invariant-loop-atom : goal.invariant-loop-atom
invariant-loop-atom l = (g : Grant) → noted_revocation l.noted g ≡ cond (names l.by (take l.atom-index l.atoms) l.whom g) l.at.0 (noted_revocation l.fn.noted g)
