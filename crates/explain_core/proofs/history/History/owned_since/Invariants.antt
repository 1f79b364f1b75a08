use Rattle.std.proofs.Common.{◌≡◌, false, take}
use Rattle.grants_core.specs.Owners.{owns}
use Rattle.grants_core.specs.History.{owners_after}
use Rattle.explain_core.proofs.history.History.owned_since.Given as goal

abbrev pub invariant-loop-change : goal.invariant-loop-change
invariant-loop-change l = record {
  counted : l.moment ≡ l.change-index;
  unowned : owns (owners_after (take l.change-index l.change-items)) l.user l.atom ≡ false;
}
