use Rattle.std.proofs.Common.{◌≡◌, ◌-◌, map, take, length}
use Rattle.capture_core.specs.Fingerprints.{grant_fingerprint}
use Rattle.capture_core.proofs.granted.fingerprint_all.Given as goal

abbrev pub invariant-loop-grant : goal.invariant-loop-grant
invariant-loop-grant l = l.fingerprints.items ≡ map grant_fingerprint (take (length l.fingerprints.items) l.grants)

abbrev pub decreases-loop-grant : goal.decreases-loop-grant
decreases-loop-grant l = length l.grants - length l.fingerprints.items
