use Rattle.std.proofs.Common.{◌≡◌, false, take}
use Rattle.std.specs.List.{list_any}
use Rattle.grants_core.specs.Content.{gives}
use Rattle.capture_core.proofs.granted.any_fingerprinted.Given as goal

-- none of the grants so far
abbrev pub invariant-loop-at : goal.invariant-loop-at
invariant-loop-at l = list_any (gives l.user l.atom) (take l.at l.grants) ≡ false
