use Rattle.std.proofs.Common.{length, take, ◌-◌, ◌≡◌, ◌≤◌, false}
use Rattle.std.specs.Io.KnownBytes.{Appends}
use Rattle.journal_core.proofs.line_keeper.write_front.Given as goal

-- the sink took so many of the bytes
abbrev pub invariant-loop-count : goal.invariant-loop-count
invariant-loop-count g l =
    (l.count ≤ length l.bytes)
    × (g.W.Sink.failed l.sink ≡ false)
    × Appends (g.W.Sink.taken l.initial.sink) (g.W.Sink.taken l.sink) (take l.count l.bytes)

abbrev pub decreases-loop-count : goal.decreases-loop-count
decreases-loop-count g l = length l.bytes - l.count
