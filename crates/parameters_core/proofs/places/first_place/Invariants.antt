use Rattle.std.proofs.Common.{◌≡◌, ◌-◌, false, length, take}
use Rattle.parameters_core.specs.Statements.{open_behind}
use Rattle.parameters_core.proofs.Parts.{NoPlaceBefore}
use Rattle.parameters_core.proofs.places.first_place.Given as goal

abbrev pub invariant-loop-at : goal.invariant-loop-at
invariant-loop-at l = (l.is_inside ≡ open_behind false (take l.at l.text)) × NoPlaceBefore l.text l.at

abbrev pub decreases-loop-at : goal.decreases-loop-at
decreases-loop-at l = length l.text - l.at
