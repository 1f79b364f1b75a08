use Rattle.std.proofs.Common.{◌≡◌, ◌++◌, take}
use Rattle.load_core.specs.FaultTexts.{printable}
use Rattle.load_core.proofs.replay_text.add_printable.Given as goal

-- the bytes so far were added
abbrev pub invariant-loop-byte : goal.invariant-loop-byte
invariant-loop-byte l = l.text.items ≡ l.initial.text.items ++ printable (take l.byte-index l.bytes)
