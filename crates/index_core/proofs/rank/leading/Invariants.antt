use Rattle.std.proofs.Common.{◌≡◌, ◌+◌, ◌*◌, ◌-◌, drop}
use Rattle.index_core.specs.Rank.{leading, texts_of_length}
use Rattle.index_core.proofs.rank.leading.Given as goal

abbrev pub invariant-loop-at : goal.invariant-loop-at
invariant-loop-at l = l.so_far * texts_of_length (8 - l.at) + leading (8 - l.at) (drop l.at l.bytes) ≡ leading 8 l.bytes
