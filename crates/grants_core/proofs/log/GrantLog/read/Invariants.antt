use Rattle.std.proofs.Common.{◌≡◌, ◌≤◌, take}
use Rattle.grants_core.specs.declared.grant.Grant.{Grant}
use Rattle.grants_core.specs.Log.{noted_revocation, IsLogOf}
use Rattle.grants_core.proofs.log.GrantLog.read.Given as goal

-- the log is that of the changes so far, and notes no later revocation
abbrev pub invariant-loop-change : goal.invariant-loop-change
invariant-loop-change l = record {
  counted : l.moment ≡ l.change-index;
  read : IsLogOf l.log (take l.change-index l.changes);
  struck : (g : Grant) → noted_revocation l.log.struck g ≤ l.moment;
  unoptioned : (g : Grant) → noted_revocation l.log.unoptioned g ≤ l.moment;
}
