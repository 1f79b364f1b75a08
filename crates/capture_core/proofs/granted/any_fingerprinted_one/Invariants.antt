use Rattle.std.proofs.Common.{◌≡◌, false, take}
use Rattle.std.specs.List.{list_any}
use Rattle.capture_core.specs.Image.{gives_one}
use Rattle.capture_core.proofs.granted.any_fingerprinted_one.Given as goal

-- none of the grants so far
abbrev pub invariant-loop-at : goal.invariant-loop-at
invariant-loop-at l = list_any (gives_one l.user l.table l.columns) (take l.at l.grants) ≡ false
