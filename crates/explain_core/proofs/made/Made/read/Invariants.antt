use Rattle.std.proofs.Common.{◌≡◌, take}
use Rattle.grants_core.specs.History.{granted, owners_after}
use Rattle.explain_core.proofs.made.Made.read.Given as goal

-- what the changes so far make
abbrev pub invariant-loop-change : goal.invariant-loop-change
invariant-loop-change l = record {
  counted : l.moment ≡ l.change-index;
  owners : l.made.owners ≡ owners_after (take l.change-index l.changes);
  grants : l.made.grants.items ≡ granted (take l.change-index l.changes);
}
