use Rattle.std.proofs.Common.{◌≡◌, ◌<◌, take}
use Rattle.capture_core.specs.Fingerprints as fingerprint
use Rattle.capture_core.proofs.granted.part_of.Given as goal

abbrev pub invariant-loop-byte : goal.invariant-loop-byte
invariant-loop-byte l = record {
  part : l.part ≡ fingerprint.part_of (take l.byte-index l.bytes);
  small : l.part < 65521;
}
