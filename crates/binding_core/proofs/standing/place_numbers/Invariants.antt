use Rattle.std.proofs.Common.{◌≡◌, length}
use Rattle.binding_core.specs.Standing.{AreNumbersFrom}
use Rattle.binding_core.proofs.standing.place_numbers.Given as goal

abbrev pub invariant-loop-place : goal.invariant-loop-place
invariant-loop-place l = record {
  many : length l.values.items ≡ l.place;
  each : AreNumbersFrom l.first l.values.items;
}
