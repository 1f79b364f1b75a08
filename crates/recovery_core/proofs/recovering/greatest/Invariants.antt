use Rattle.std.proofs.Common.{◌≡◌, ◌≤◌, None, IfSome, take, All, Contains}
use Rattle.recovery_core.proofs.recovering.greatest.Given as goal

abbrev pub invariant-loop-point : goal.invariant-loop-point
invariant-loop-point l = record {
  none : l.greatest ≡ None → l.point-index ≡ 0;
  some : IfSome l.greatest (λ greatest. Contains l.points greatest);
  greatest : IfSome l.greatest (λ greatest. All (λ point. point ≤ greatest) (take l.point-index l.points));
}
