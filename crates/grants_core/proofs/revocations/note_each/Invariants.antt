use Rattle.std.proofs.Common.{◌≡◌, cond, [], ◌∷◌, take}
use Rattle.grants_core.specs.declared.grant.Grant.{Grant}
use Rattle.grants_core.specs.Content.{names}
use Rattle.grants_core.specs.Log.{noted_revocation}
use Rattle.grants_core.proofs.revocations.note_each.Given as goal

-- what is noted of the users so far
abbrev pub invariant-loop-user : goal.invariant-loop-user
invariant-loop-user l = (g : Grant) → noted_revocation l.noted g ≡ cond (names l.by (l.atom ∷ []) (take l.user-index l.whom) g) l.at.0 (noted_revocation l.fn.noted g)
