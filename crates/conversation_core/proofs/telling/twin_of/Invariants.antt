use Rattle.std.proofs.Common.{◌≡◌, take}
use Rattle.conversation_core.proofs.telling.twin_of.Given as goal

abbrev pub invariant-loop-format : goal.invariant-loop-format
invariant-loop-format l = l.twin ≡ take l.format-index l.formats
