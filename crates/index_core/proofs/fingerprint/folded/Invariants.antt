use Rattle.std.proofs.Common.{◌≡◌, take}
use Rattle.std.specs.List.{fold}
use Rattle.index_core.specs.Fingerprint.{stirred}
use Rattle.index_core.proofs.fingerprint.folded.Given as goal

abbrev pub invariant-loop-byte : goal.invariant-loop-byte
invariant-loop-byte l = l.so_far ≡ fold stirred 0 (take l.byte-index l.bytes)
