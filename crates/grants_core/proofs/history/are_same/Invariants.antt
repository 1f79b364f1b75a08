use Rattle.std.proofs.Common.{◌≡◌, drop, length}
use Rattle.std.specs.Cmp.Lexicographic.{pointwise}
use Rattle.grants_core.specs.Log.{same_grant}
use Rattle.grants_core.proofs.history.are_same.Given as goal

-- what is left decides
abbrev pub invariant-loop-at : goal.invariant-loop-at
invariant-loop-at l = record {
  long : length l.grants ≡ length l.others;
  left : pointwise same_grant l.grants l.others ≡ pointwise same_grant (drop l.at l.grants) (drop l.at l.others);
}
