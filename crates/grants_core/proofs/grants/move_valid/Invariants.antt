use Rattle.std.proofs.Common.{◌≡◌, ◌≤◌, take, drop, length}
use Rattle.grants_core.specs.Valid.{valid}
use Rattle.grants_core.proofs.grants.move_valid.Given as goal

-- the valid ones so far stand in front, and what is to come is as it was
abbrev pub invariant-loop-at : goal.invariant-loop-at
invariant-loop-at l = record {
  front : take l.kept l.grants ≡ valid l.owners (take l.at l.fn.grants);
  rest : drop l.at l.grants ≡ drop l.at l.fn.grants;
  within : l.kept ≤ l.at;
  long : length l.grants ≡ length l.fn.grants;
}
