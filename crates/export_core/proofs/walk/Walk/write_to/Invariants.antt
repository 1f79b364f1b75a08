use Rattle.std.proofs.Common.{◌≡◌, ℕ, false, length}
use Rattle.export_core.specs.Ticket.{WritesRecords}
use Rattle.export_core.proofs.walk.Walk.write_to.Given as goal

-- so many records were given and written
abbrev pub invariant-loop : goal.invariant-loop
invariant-loop g l =
    (g.W.Sink.failed l.writer ≡ false)
    × ((n : ℕ) × WritesRecords n l.initial.self l.self (g.W.Sink.taken l.initial.writer) (g.W.Sink.taken l.writer))

abbrev pub decreases-loop : goal.decreases-loop
decreases-loop g l = length l.self.to_come
