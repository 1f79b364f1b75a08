use Rattle.std.proofs.Common.{◌≡◌, drop, length}
use Rattle.std.specs.List.{prefix_len}
use Rattle.utility_core.specs.Commands.{is_padding}
use Rattle.utility_core.proofs.reading.behind_padding.Given as goal

abbrev pub invariant-loop-bytes : goal.invariant-loop-bytes
invariant-loop-bytes l =
    drop (prefix_len is_padding l.bytes) l.bytes ≡ drop (prefix_len is_padding l.initial.bytes) l.initial.bytes

abbrev pub decreases-loop-bytes : goal.decreases-loop-bytes
decreases-loop-bytes l = length l.bytes
