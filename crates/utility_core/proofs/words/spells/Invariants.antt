use Rattle.std.proofs.Common.{◌≡◌, length}
use Rattle.std.specs.Str.{bytes_eq}
use Rattle.base_core.specs.Words.{folded}
use Rattle.utility_core.proofs.words.spells.Given as goal

abbrev pub invariant-loop-word : goal.invariant-loop-word
invariant-loop-word l = bytes_eq l.word (folded l.bytes) ≡ bytes_eq l.initial.word (folded l.initial.bytes)

abbrev pub decreases-loop-word : goal.decreases-loop-word
decreases-loop-word l = length l.word
