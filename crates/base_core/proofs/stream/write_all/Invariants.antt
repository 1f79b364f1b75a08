use Rattle.std.proofs.Common.{◌≡◌, ℕ, false, List, ◌++◌, length}
use Rattle.std.specs.Io.KnownBytes.{Appends}
use Rattle.base_core.proofs.stream.write_all.Given as goal

-- what was written is the bytes but for the rest
abbrev pub invariant-loop-rest : goal.invariant-loop-rest
invariant-loop-rest g l =
    (g.W.Sink.failed l.writer ≡ false)
    × ((part : List ℕ) × Appends (g.W.Sink.taken l.initial.writer) (g.W.Sink.taken l.writer) part × (part ++ l.rest ≡ l.bytes))

abbrev pub decreases-loop-rest : goal.decreases-loop-rest
decreases-loop-rest g l = length l.rest
