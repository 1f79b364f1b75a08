use Rattle.std.proofs.Common.{◌≡◌, length}
use Rattle.std.specs.Str.{bytes_eq}
use Rattle.base_core.specs.Words.{folded}
use Rattle.conversation_core.proofs.commands.spells.Given as goal

abbrev pub invariant-loop-name : goal.invariant-loop-name
invariant-loop-name l = bytes_eq l.name (folded l.word) ≡ bytes_eq l.initial.name (folded l.initial.word)

abbrev pub decreases-loop-name : goal.decreases-loop-name
decreases-loop-name l = length l.name
