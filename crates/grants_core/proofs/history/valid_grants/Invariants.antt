use Rattle.std.proofs.Common.{◌≡◌, take}
use Rattle.grants_core.specs.Valid.{valid}
use Rattle.grants_core.specs.Log.{left_by}
use Rattle.grants_core.specs.Kept.{IsIndexed}
use Rattle.grants_core.proofs.history.valid_grants.Given as goal

-- the valid ones so far are kept
abbrev pub invariant-loop-grant : goal.invariant-loop-grant
invariant-loop-grant l = record {
  grants : l.kept.grants.items ≡ valid l.log.owners (left_by l.log (take l.grant-index l.log.made.items));
  indexed : IsIndexed l.kept;
}
