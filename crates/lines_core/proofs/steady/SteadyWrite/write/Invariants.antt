use Rattle.std.specs.Io.KnownBytes.{Keeps}
use Rattle.lines_core.proofs.steady.SteadyWrite.write.Given as goal

-- an interrupted write adds nothing
abbrev pub invariant-loop : goal.invariant-loop
invariant-loop g l = Keeps (g.W.Write.contents l.initial.self.stream) (g.W.Write.contents l.self.stream)
