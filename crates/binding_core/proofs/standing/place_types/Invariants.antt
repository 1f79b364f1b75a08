use Rattle.std.proofs.Common.{◌≡◌, length}
use Rattle.binding_core.specs.Standing.{ArePlaceTypes}
use Rattle.binding_core.proofs.standing.place_types.Given as goal

abbrev pub invariant-loop-place : goal.invariant-loop-place
invariant-loop-place l = record {
  many : length l.types.items ≡ l.place;
  each : ArePlaceTypes l.columns l.ones l.others l.types.items;
}
