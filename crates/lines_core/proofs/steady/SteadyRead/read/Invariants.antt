use Rattle.std.proofs.Common.{◌≡◌, length}
use Rattle.std.specs.Io.KnownBytes.{Keeps}
use Rattle.lines_core.proofs.steady.SteadyRead.read.Given as goal

-- the buffer keeps its length, and an interrupted read takes nothing
abbrev pub invariant-loop : goal.invariant-loop
invariant-loop g l =
    (length l.buf ≡ length l.initial.buf)
    × Keeps (g.R.Read.remaining l.initial.self.stream) (g.R.Read.remaining l.self.stream)
